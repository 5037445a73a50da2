use Rattle.std.proofs.Common.{◌≡◌, ◌<◌, ◌∙◌, length, false, true, inr, sym, ap}
use Rattle.std.proofs.Common.{subst, arith}
use Rattle.std.specs.Prelude.{MatchOption, ⊤}
use Rattle.std.proofs.lemmas.Result.{err_from_is_err_and}
use Rattle.yaml_merge.specs.Kept.{slot}
use Rattle.yaml_merge.specs.Merging.{count}
use Rattle.yaml_lines.specs.declared.forest.Forest.TheViews.{out-Node, out-Forest}
use Rattle.yaml_lines.specs.Trees.{trees_of}
use Rattle.yaml_lines.proofs.TreeSteps.{trees_out}
use Rattle.yaml_merge.specs.Resolving.{removes}
use Rattle.yaml_merge.proofs.TopSteps.{width_forest}
use Rattle.yaml_merge.proofs.FileSteps.{far_first, far_past, far_kept, far_full, far_lost, counted}
use Rattle.yaml_merge.proofs.FileSteps.{before_kept, before_past}
use Rattle.yaml_merge.proofs.files.keep_tops.Goals as goal

pub loop-at-init : goal.loop-at-init
loop-at-init c =
    let forest = c.args.tops.now.forest in
    record { are_kept = c.requires.are_kept; long = c.requires.long; before = λ other h r. absurd (omega (arith, h)); far = far_first (trees_of forest) (out-Forest forest).nodes.items (trees_out forest) }

pub loop-at-preserved : goal.loop-at-preserved
loop-at-preserved c =
    let forest = c.args.tops.now.forest in
    let told = c.loop-at.invariant in
    let node = c.node_at-node.result.now in
    let stays : removes (out-Node node).key ≡ false = sym (c.removes.ensures ∙ ap removes (c.as_bytes.ensures.value ∙ c.as_str.ensures)) ∙ c.if-removes.false in
    let kept = c.in_ok-keep.ensures {u = tt} in
    record {
      are_kept = kept.are_kept;
      long = kept.long;
      before = before_kept (trees_of forest) c.loop-at.at _ _ (λ other is. kept.stay other (c.keep_parents.ensures.stay other is)) kept.kept told.before;
      far = far_kept forest c.loop-at.at node c.keep.new.kept.items c.loop-at.total c.total_at.result _ (omega (arith, (out-Forest forest).nodes.ok.0)) c.node_at-node.ensures stays kept.are_kept
          (counted c.keep.new.kept.items c.loop-at.at c.total_at.result kept.kept
          (subst (λ l. MatchOption (slot l c.loop-at.at) ⊤ (λ held. c.total_at.result ≡ count (trees_of held.children))) c.as_slice.ensures.value c.total_at.ensures)) (omega (arith, told.far.small, c.saturating_add.ensures, c.saturating_add-total.ensures)) (omega arith) told.far;
    }

pub returns-then-total-gt-MAX_FOREST_NODES-clause-fault : goal.returns-then-total-gt-MAX_FOREST_NODES-clause-fault
returns-then-total-gt-MAX_FOREST_NODES-clause-fault c =
    let forest = c.args.tops.now.forest in
    let told = c.loop-at.invariant in
    let node = c.node_at-node.result.now in
    let stays : removes (out-Node node).key ≡ false = sym (c.removes.ensures ∙ ap removes (c.as_bytes.ensures.value ∙ c.as_str.ensures)) ∙ c.if-removes.false in
    let kept = c.in_ok-keep.ensures {u = tt} in
    inr
    (far_full forest c.loop-at.at node c.keep.new.kept.items c.loop-at.total c.total_at.result (omega (arith, (out-Forest forest).nodes.ok.0)) c.node_at-node.ensures stays kept.are_kept
    (counted c.keep.new.kept.items c.loop-at.at c.total_at.result kept.kept
    (subst (λ l. MatchOption (slot l c.loop-at.at) ⊤ (λ held. c.total_at.result ≡ count (trees_of held.children))) c.as_slice.ensures.value c.total_at.ensures)) (omega (arith, told.far.small, c.saturating_add.ensures, c.saturating_add-total.ensures)) told.far)

pub keep-requires-clause-root : goal.keep-requires-clause-root
keep-requires-clause-root c =
    let forest = c.args.tops.now.forest in
    omega (arith, width_forest forest, (out-Forest forest).nodes.ok.0)

pub returns-in_err-keep-clause-fault : goal.returns-in_err-keep-clause-fault
returns-in_err-keep-clause-fault c =
    let forest = c.args.tops.now.forest in
    let told = c.loop-at.invariant in
    let node = c.node_at-node.result.now in
    let stays : removes (out-Node node).key ≡ false = sym (c.removes.ensures ∙ ap removes (c.as_bytes.ensures.value ∙ c.as_str.ensures)) ∙ c.if-removes.false in
    let p = err_from_is_err_and c.from_residual-in_err-keep.result c.from_residual-in_err-keep.ensures.1 in
    rw (p.1, p.2)
    (far_lost forest c.loop-at.at node c.loop-at.total _ (omega (arith, (out-Forest forest).nodes.ok.0)) c.node_at-node.ensures stays (c.in_err-keep.ensures {u = tt}).fault told.far)

pub loop-at-preserved-then-removes : goal.loop-at-preserved-then-removes
loop-at-preserved-then-removes c =
    let forest = c.args.tops.now.forest in
    let nodes = (out-Forest forest).nodes.items in
    let told = c.loop-at.invariant in
    let at = c.loop-at.at in
    let node = c.node_at-node.result.now in
    let place : at < length nodes = omega (arith, (out-Forest forest).nodes.ok.0) in
    let is : removes (out-Node node).key ≡ true = sym (c.removes.ensures ∙ ap removes (c.as_bytes.ensures.value ∙ c.as_str.ensures)) ∙ c.if-removes.true in
    record {
      are_kept = told.are_kept;
      long = told.long;
      before = before_past forest at node c.loop-at.kept.items place c.node_at-node.ensures is told.before;
      far = far_past nodes at node (trees_of forest) c.loop-at.total place c.node_at-node.ensures is told.far;
    }

pub returns-clause-all : goal.returns-clause-all
returns-clause-all c other h r =
    let forest = c.args.tops.now.forest in
    c.loop-at.invariant.before other (omega (arith, h, width_forest forest, (out-Forest forest).nodes.ok.0)) r
