use Rattle.std.proofs.Common.{◌≡◌, ◌∙◌, ◌-◌, ◌++◌, ◌∷◌, [], ap, sym, subst, arith}
use Rattle.yaml_lines.specs.declared.forest.Forest.TheViews.{out-Node}
use Rattle.yaml_lines.specs.Trees.{trees_of}
use Rattle.yaml_merge.specs.Kept.{key_from}
use Rattle.yaml_merge.specs.Settled.{IsDistinct}
use Rattle.yaml_merge.proofs.SettledSteps.{distinct_once, distinct_at}
use Rattle.yaml_merge.proofs.TopSteps.{width_forest}
use Rattle.yaml_merge.proofs.DescentSteps.{Descends, descends_first, descends_clear, descends_next}
use Rattle.yaml_merge.proofs.DescentSteps.{descends_fault, descends_made, node_children, node_key}
use Rattle.yaml_merge.proofs.keeping.next_made.Goals as goal

pub parents-init : goal.parents-init
parents-init c =
    descends_first (trees_of c.args.tops.now.forest) c.args.kept.now c.args.root c.new-path.result.items c.new-path.ensures.items c.requires.root c.requires.vacant

pub node_at-node-requires : goal.node_at-node-requires
node_at-node-requires c = omega (arith, c.parents.invariant.place, width_forest c.args.tops.now.forest)

pub invariant_of-scene : goal.invariant_of-scene
invariant_of-scene c =
    let forest = c.args.tops.now.forest in
    let tops = trees_of forest in
    let told = c.parents.invariant in
    let key = node_key forest c.parents.at c.node_at-node.result.now told.place c.node_at-node.ensures in
    let longer : c.as_slice.result.now ≡ c.parents.path.items ++ key_from c.parents.at tops ∷ [] =
    c.as_slice.ensures.value ∙ (c.in_ok-push.ensures {u = tt}).items ∙ ap (λ k. c.parents.path.items ++ k ∷ []) (c.in_ok-copy.ensures {u = tt} ∙ key) in
    record { low = told.low; is_clear = descends_clear tops c.args.kept.now c.args.root c.parents.at c.parents.free c.parents.path.items c.as_slice.result.now (distinct_once _ c.requires.distinct) c.requires.long told longer }

pub resolve_top-requires : goal.resolve_top-requires
resolve_top-requires c =
    let forest = c.args.tops.now.forest in
    record {
      distinct = subst IsDistinct (sym (node_children forest c.parents.at c.node_at-node.result.now c.parents.invariant.place c.node_at-node.ensures)) (distinct_at c.parents.at (trees_of forest) c.requires.distinct);
      are_kept = c.requires.are_kept;
    }

pub returns-in-Ok-clause-next : goal.returns-in-Ok-clause-next
returns-in-Ok-clause-next c =
    let forest = c.args.tops.now.forest in
    let told = c.parents.invariant in
    let resolved = c.in-Ok.ensures {u = tt} in
    descends_made (trees_of forest) c.args.kept.now c.args.root c.parents.at c.parents.free c.parents.path.items (trees_of (out-Node c.node_at-node.result.now).children) c.in-Ok.made told
    (node_children forest c.parents.at c.node_at-node.result.now told.place c.node_at-node.ensures) resolved.bound resolved.done

pub returns-in-Fault-clause-fault : goal.returns-in-Fault-clause-fault
returns-in-Fault-clause-fault c =
    let forest = c.args.tops.now.forest in
    let tops = trees_of forest in
    let told = c.parents.invariant in
    let key = node_key forest c.parents.at c.node_at-node.result.now told.place c.node_at-node.ensures in
    let longer : c.as_slice.result.now ≡ c.parents.path.items ++ key_from c.parents.at tops ∷ [] =
    c.as_slice.ensures.value ∙ (c.in_ok-push.ensures {u = tt}).items ∙ ap (λ k. c.parents.path.items ++ k ∷ []) (c.in_ok-copy.ensures {u = tt} ∙ key) in
    descends_fault tops c.args.kept.now c.args.root c.parents.at c.parents.free c.parents.path.items c.as_slice.result.now (trees_of (out-Node c.node_at-node.result.now).children) c.in-Fault.fault c.in-Err.stop told longer
    (node_children forest c.parents.at c.node_at-node.result.now told.place c.node_at-node.ensures) c.in-Fault.is (c.in-Err.ensures {u = tt}).stop

pub parents-preserved : goal.parents-preserved
parents-preserved c =
    let forest = c.args.tops.now.forest in
    let tops = trees_of forest in
    let told = c.parents.invariant in
    let key = node_key forest c.parents.at c.node_at-node.result.now told.place c.node_at-node.ensures in
    let longer : c.as_slice.result.now ≡ c.parents.path.items ++ key_from c.parents.at tops ∷ [] =
    c.as_slice.ensures.value ∙ (c.in_ok-push.ensures {u = tt}).items ∙ ap (λ k. c.parents.path.items ++ k ∷ []) (c.in_ok-copy.ensures {u = tt} ∙ key) in
    subst (λ p. Descends tops c.args.kept.now c.args.root c.in-Parent.next (c.parents.free - 1) p) c.as_slice.ensures.value
    (descends_next tops c.args.kept.now c.args.root c.parents.at c.parents.free c.in-Parent.next c.parents.path.items c.as_slice.result.now (trees_of (out-Node c.node_at-node.result.now).children) c.in-Err.stop (distinct_once _ c.requires.distinct) c.requires.long told longer
    (node_children forest c.parents.at c.node_at-node.result.now told.place c.node_at-node.ensures) c.in-Parent.is (c.in-Err.ensures {u = tt}).stop)
