use Rattle.std.proofs.Common.{◌≡◌, ◌≤◌, Ok, ◌∙◌, ap, drop, sym, subst, inr, arith, true, false}
use Rattle.std.proofs.lemmas.List.{drop_all}
use Rattle.std.proofs.lemmas.Result.{err_from_is_err_and}
use Rattle.yaml_lines.specs.declared.forest.Forest.TheViews.{out-Node}
use Rattle.base.specs.Steps.{IsFault}
use Rattle.yaml_merge.specs.declared.fault.MergeFault.TheVariants.{NoMemory}
use Rattle.yaml_lines.specs.Trees.{trees_of, trees_of_nodes}
use Rattle.yaml_merge.specs.Merging.{count, joined, without}
use Rattle.yaml_merge.specs.declared.TheConstants.{MAX_LIST_NODES}
use Rattle.yaml_merge.specs.Resolving.{inherits, removes, removed, taken_in, resolved_list}
use Rattle.yaml_merge.proofs.PlaceLaws.{joined_emptied}
use Rattle.yaml_merge.proofs.KeptSteps.{clear_less, stops_on, gives_same, stops_same, took_inherits}
use Rattle.yaml_merge.proofs.KeptSteps.{took_removes, took_joins}
use Rattle.yaml_merge.proofs.ListSteps.{join_done, leaf_done, resolved_none, resolved_step, resolved_fault}
use Rattle.yaml_merge.proofs.ListSteps.{resolved_large}
use Rattle.yaml_merge.proofs.AgainSteps.{taken_again, kept_within, repeated}
use Rattle.yaml_merge.proofs.StepSteps.{within_small}
use Rattle.yaml_merge.proofs.resolving.+resolving.Goals as goal

pub join_node-returns-clause-taken : goal.join_node-returns-clause-taken
join_node-returns-clause-taken t c = λ free path h clear.
    let node = out-Node c.args.node.now in
    let resolved = c.in_ok-children.ensures {u = tt} in
    let tops = trees_of c.args.scene.now.tops.now.forest in
    let old = c.take-children.result in
    let below = c.in_ok-children.children in
    join_done free c.args.room tops path node.key node.value node.place (trees_of node.children) c.args.list old below c.join.new.self
    (sym c.take-children.ensures.children)
    (ap (λ r. resolved_list free (trees_of node.children) r tops path old) (sym c.saturating_sub-room.ensures) ∙ resolved.done free path h clear)
    (c.in_ok-join.ensures {u = tt}
    ∙ ap (joined node.key node.value node.place (λ _. below)) c.take-children.ensures.left
    ∙ joined_emptied node.key node.value node.place below c.args.list)

pub resolve_list-returns-clause-done : goal.resolve_list-returns-clause-done
resolve_list-returns-clause-done t c = λ free path h clear.
    let told = c.loop-node.invariant in
    let tops = trees_of c.args.scene.now.tops.now.forest in
    sym (told.rest free path h clear)
    ∙ ap (λ l. resolved_list free (trees_of_nodes l) c.args.room tops path c.loop-node.done) (drop_all c.loop-node.node-index c.deref-node-items.result.now (omega arith))
    ∙ resolved_none free c.args.room tops path c.loop-node.done

pub resolve_list-loop-node-preserved : goal.resolve_list-loop-node-preserved
resolve_list-loop-node-preserved t c =
    let told = c.loop-node.invariant in
    let scene = c.args.scene.now in
    let tops = trees_of scene.tops.now.forest in
    let node = c.node-item.result in
    let o = out-Node node in
    let taken = c.in_ok-next.ensures {u = tt} in
    let kept = c.in-Ok.ensures {u = tt} in
    record {
      rest = λ free path h clear.
          resolved_step free c.args.room tops path c.deref-node-items.result.now c.loop-node.node-index node c.loop-node.done c.in_ok-next.next c.in-Ok.kept _
          (omega arith) c.node-item.is (taken.taken free path h clear) kept.kept
          (told.rest free path (omega (arith, h, taken.rises)) (clear_less tops scene.kept.now _ _ path taken.rises clear));
      again = (
        subst (λ l. count l ≤ MAX_LIST_NODES) (kept_within MAX_LIST_NODES o.place c.in_ok-next.next c.in-Ok.kept kept.kept).0 (kept_within MAX_LIST_NODES o.place c.in_ok-next.next c.in-Ok.kept kept.kept).1,
        λ i free path h clear.
            taken_again free c.args.room tops path o.key o.key o.value o.place o.place (trees_of o.children) (trees_of o.children) c.loop-node.done c.in-Ok.kept i i
            (taken.taken free path h clear ∙ ap Ok (kept_within MAX_LIST_NODES o.place c.in_ok-next.next c.in-Ok.kept kept.kept).0),
      );
      rises = omega (arith, told.rises, taken.rises);
      bound = λ b. taken.bound (told.bound b);
    }

pub resolve_list-loop-node-preserved-then-repeats : goal.resolve_list-loop-node-preserved-then-repeats
resolve_list-loop-node-preserved-then-repeats t c =
    let told = c.loop-node.invariant in
    let scene = c.args.scene.now in
    let tops = trees_of scene.tops.now.forest in
    let node = c.node-item.result in
    let o = out-Node node in
    let done = c.loop-node.done in
    let same = repeated tops scene.kept.now c.loop-node.high c.args.room done c.loop-node.before node told.again (c.if-repeats.ensures {u = tt}) in
    record {
      rest = λ free path h clear.
          resolved_step free c.args.room tops path c.deref-node-items.result.now c.loop-node.node-index node done done done _
          (omega arith) c.node-item.is (same.1 free path h clear) (within_small MAX_LIST_NODES o.place done same.0)
          (told.rest free path h clear);
      again = told.again;
      rises = told.rises;
      bound = told.bound;
    }

pub resolve_list-returns-in-Err-clause-stop : goal.resolve_list-returns-in-Err-clause-stop
resolve_list-returns-in-Err-clause-stop t c = λ b.
    let told = c.loop-node.invariant in
    let scene = c.args.scene.now in
    let tops = trees_of scene.tops.now.forest in
    let node = c.node-item.result in
    let taken = c.in_ok-next.ensures {u = tt} in
    let fault = c.in-Err.ensures {u = tt} in
    inr
    (resolved_large scene.free c.args.room tops scene.path.now c.deref-node-items.result.now c.loop-node.node-index node c.loop-node.done c.in_ok-next.next c.in-Err.fault _
    (omega arith) c.node-item.is
    (taken.taken scene.free scene.path.now (taken.bound (told.bound b)) (clear_less tops scene.kept.now _ _ scene.path.now (taken.bound (told.bound b)) scene.is_clear))
    fault.fault
    (told.rest scene.free scene.path.now (told.bound b) (clear_less tops scene.kept.now _ _ scene.path.now (told.bound b) scene.is_clear)))

pub resolve_list-returns-in_err-next-clause-stop : goal.resolve_list-returns-in_err-next-clause-stop
resolve_list-returns-in_err-next-clause-stop t c = λ b.
    let told = c.loop-node.invariant in
    let scene = c.args.scene.now in
    let tops = trees_of scene.tops.now.forest in
    let node = c.node-item.result in
    let o = out-Node node in
    let taken = c.in_err-next.ensures {u = tt} in
    let p = err_from_is_err_and c.from_residual.result c.from_residual.ensures.1 in
    rw (p.1, p.2)
    (stops_on tops scene.kept.now scene.free scene.path.now c.in_err-next.field-0.0
    (taken_in scene.free c.args.room tops scene.path.now o.key o.value o.place (trees_of o.children) c.loop-node.done)
    (resolved_list scene.free (trees_of c.args.list.now) c.args.room tops scene.path.now c.args.start)
    (λ fault e.
    resolved_fault scene.free c.args.room tops scene.path.now c.deref-node-items.result.now c.loop-node.node-index node c.loop-node.done fault _
    (omega arith) c.node-item.is e
    (told.rest scene.free scene.path.now (told.bound b) (clear_less tops scene.kept.now _ _ scene.path.now (told.bound b) scene.is_clear)))
    (taken.stop (told.bound b)))

pub take_in-returns-then-inherits-clause-taken : goal.take_in-returns-then-inherits-clause-taken
take_in-returns-then-inherits-clause-taken t c =
    let scene = c.args.scene.now in
    let tops = trees_of scene.tops.now.forest in
    let o = out-Node c.args.node.now in
    let i : inherits o.key ≡ true = sym (c.inherits.ensures ∙ ap inherits (c.as_bytes.ensures.value ∙ c.as_str-key.ensures)) ∙ c.if-inherits.true in
    gives_same tops scene.kept.now _ _ _ _
    (λ free path. took_inherits free c.args.room tops path o.key o.value o.place (trees_of o.children) c.args.list i) c.inherit_node.ensures.taken

pub take_in-returns-then-inherits-clause-stop : goal.take_in-returns-then-inherits-clause-stop
take_in-returns-then-inherits-clause-stop t c = λ b.
    let scene = c.args.scene.now in
    let tops = trees_of scene.tops.now.forest in
    let o = out-Node c.args.node.now in
    let i : inherits o.key ≡ true = sym (c.inherits.ensures ∙ ap inherits (c.as_bytes.ensures.value ∙ c.as_str-key.ensures)) ∙ c.if-inherits.true in
    stops_same tops scene.kept.now scene.free scene.path.now _ _ _
    (sym (took_inherits scene.free c.args.room tops scene.path.now o.key o.value o.place (trees_of o.children) c.args.list i)) c.inherit_node.ensures.stop

pub take_in-returns-in-Ok-clause-taken : goal.take_in-returns-in-Ok-clause-taken
take_in-returns-in-Ok-clause-taken t c = λ free path h clear.
    let tops = trees_of c.args.scene.now.tops.now.forest in
    let o = out-Node c.args.node.now in
    let i : inherits o.key ≡ false = sym (c.inherits.ensures ∙ ap inherits (c.as_bytes.ensures.value ∙ c.as_str-key.ensures)) ∙ c.if-inherits.false in
    let gone = c.in-Some.ensures {u = tt} in
    took_removes free c.args.room tops path o.key o.value o.place (trees_of o.children) c.args.list i (sym (ap removes c.as_str-key.ensures) ∙ gone.0)
    ∙ ap (λ k. removed o.place (without k c.args.list)) (sym (gone.1 ∙ ap (drop 1) c.as_str-key.ensures))
    ∙ (c.in-Ok.ensures {u = tt}).left

pub take_in-returns-in-Err-clause-stop : goal.take_in-returns-in-Err-clause-stop
take_in-returns-in-Err-clause-stop t c = λ b.
    let scene = c.args.scene.now in
    let tops = trees_of scene.tops.now.forest in
    let o = out-Node c.args.node.now in
    let i : inherits o.key ≡ false = sym (c.inherits.ensures ∙ ap inherits (c.as_bytes.ensures.value ∙ c.as_str-key.ensures)) ∙ c.if-inherits.false in
    let gone = c.in-Some.ensures {u = tt} in
    subst (IsFault NoMemory c.in-Err.fault)
    (sym
    (took_removes scene.free c.args.room tops scene.path.now o.key o.value o.place (trees_of o.children) c.args.list i (sym (ap removes c.as_str-key.ensures) ∙ gone.0)
    ∙ ap (λ k. removed o.place (without k c.args.list)) (sym (gone.1 ∙ ap (drop 1) c.as_str-key.ensures))))
    (c.in-Err.ensures {u = tt}).fault

pub take_in-returns-in-None-clause-taken : goal.take_in-returns-in-None-clause-taken
take_in-returns-in-None-clause-taken t c =
    let scene = c.args.scene.now in
    let tops = trees_of scene.tops.now.forest in
    let o = out-Node c.args.node.now in
    let i : inherits o.key ≡ false = sym (c.inherits.ensures ∙ ap inherits (c.as_bytes.ensures.value ∙ c.as_str-key.ensures)) ∙ c.if-inherits.false in
    let r : removes o.key ≡ false = sym (ap removes c.as_str-key.ensures) ∙ c.in-None.ensures {u = tt} in
    gives_same tops scene.kept.now _ _ _ _
    (λ free path. took_joins free c.args.room tops path o.key o.value o.place (trees_of o.children) c.args.list i r) c.join_node.ensures.taken

pub take_in-returns-in-None-clause-stop : goal.take_in-returns-in-None-clause-stop
take_in-returns-in-None-clause-stop t c = λ b.
    let scene = c.args.scene.now in
    let tops = trees_of scene.tops.now.forest in
    let o = out-Node c.args.node.now in
    let i : inherits o.key ≡ false = sym (c.inherits.ensures ∙ ap inherits (c.as_bytes.ensures.value ∙ c.as_str-key.ensures)) ∙ c.if-inherits.false in
    let r : removes o.key ≡ false = sym (ap removes c.as_str-key.ensures) ∙ c.in-None.ensures {u = tt} in
    stops_same tops scene.kept.now scene.free scene.path.now _ _ _
    (sym (took_joins scene.free c.args.room tops scene.path.now o.key o.value o.place (trees_of o.children) c.args.list i r)) (c.join_node.ensures.stop b)

pub join_node-returns-then-is_leaf-clause-taken : goal.join_node-returns-then-is_leaf-clause-taken
join_node-returns-then-is_leaf-clause-taken t c = λ free path h clear.
    let node = out-Node c.args.node.now in
    leaf_done free c.args.room (trees_of c.args.scene.now.tops.now.forest) path node.key node.value node.place (trees_of node.children) c.args.list c.join_leaf.new.self
    (c.if-is_leaf.ensures {u = tt}) (c.in_ok-join_leaf.ensures {u = tt})
