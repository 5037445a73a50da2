use Rattle.std.proofs.Common.{◌≡◌, ◌<◌, ◌≤◌, ◌∙◌, length, false, inr, refl, sym, ap}
use Rattle.std.proofs.Common.{Some, None, Ok, arith}
use Rattle.std.specs.Prelude.{is_some}
use Rattle.std.proofs.lemmas.List.{drop_all, length-set}
use Rattle.yaml_lines.specs.declared.forest.Forest.TheViews.{out-Node, out-Forest}
use Rattle.yaml_lines.specs.Trees.{none, trees_of, trees_of_nodes}
use Rattle.yaml_lines.proofs.TreeSteps.{trees_roll, trees_out}
use Rattle.yaml_merge.specs.declared.TheConstants.{MAX_FOREST_NODES}
use Rattle.yaml_merge.specs.Kept.{key_from, slot}
use Rattle.yaml_merge.specs.Places.{width}
use Rattle.yaml_merge.proofs.DescentSteps.{node_key}
use Rattle.yaml_merge.specs.Merging.{count}
use Rattle.yaml_merge.specs.Resolving.{within, removes, added, resolved_tops}
use Rattle.yaml_merge.proofs.KeptSteps.{slot_other}
use Rattle.yaml_merge.proofs.SlotSteps.{count_added}
use Rattle.yaml_merge.proofs.NodeSteps.{added_last}
use Rattle.yaml_merge.proofs.StepSteps.{within_small, within_large}
use Rattle.yaml_merge.proofs.TopSteps.{width_forest}
use Rattle.yaml_merge.proofs.FileSteps.{tops_next, tops_large, kept_at}
use Rattle.yaml_merge.proofs.files.take_tops.Goals as goal

pub loop-at-init : goal.loop-at-init
loop-at-init c =
    let forest = c.args.tops.now.forest in
    record {
      rest = ap (λ l. resolved_tops (trees_of_nodes (out-Forest forest).nodes.items) (trees_of forest) (trees_of_nodes l)) c.new-nodes.ensures.items
          ∙ ap (λ l. resolved_tops l (trees_of forest) none) (sym (trees_out forest));
      total = sym (ap (λ l. count (trees_of_nodes l)) c.new-nodes.ensures.items);
      small = omega arith;
      held = λ other h. refl;
      long = c.requires.long;
    }

pub loop-at-preserved : goal.loop-at-preserved
loop-at-preserved c =
    let forest = c.args.tops.now.forest in
    let nodes = (out-Forest forest).nodes.items in
    let told = c.loop-at.invariant in
    let at = c.loop-at.at in
    let node = c.node_at-node.result.now in
    let o = out-Node node in
    let tops = trees_of forest in
    let start = trees_of_nodes c.loop-at.nodes.items in
    let held = c.take_at-held.result in
    let below = trees_of held.children in
    let is : slot c.args.kept.now.items at ≡ Some held = sym (told.held at (omega arith)) ∙ c.take_at-held.ensures.taken in
    let resolved = kept_at forest at node c.args.kept.now.items held (omega (arith, (out-Forest forest).nodes.ok.0)) c.node_at-node.ensures c.requires.are_kept is in
    let stays : removes o.key ≡ false = sym (c.removes.ensures ∙ ap removes (c.as_bytes.ensures.value ∙ c.as_str.ensures)) ∙ c.if-removes.false in
    let next = added o.key o.value o.place below start in
    let all = count_added o.key o.value o.place below start in
    let pushed = c.in_ok-push.ensures {u = tt} in
    let joined : trees_of_nodes c.push.new.self.items ≡ next =
    ap trees_of_nodes pushed.items ∙ added_last c.loop-at.nodes.items o.key o.value o.place below c.in_ok-node_over.field-0 (c.in_ok-node_over.ensures {u = tt}) in
    let total : c.saturating_add-total.result ≡ count next = omega (arith, all, told.total, told.small, held.counted, c.saturating_add.ensures, c.saturating_add-total.ensures) in
    let small : count next ≤ MAX_FOREST_NODES = omega (arith, total) in
    record {
      rest = tops_next nodes at node tops start below (trees_of_nodes c.push.new.self.items) _ _ (omega (arith, (out-Forest forest).nodes.ok.0)) c.node_at-node.ensures stays resolved joined
          (ap (within MAX_FOREST_NODES o.place) joined ∙ within_small MAX_FOREST_NODES o.place next small ∙ ap Ok (sym joined)) told.rest;
      total = total ∙ ap count (sym joined);
      small = omega arith;
      held = λ other h. ap (λ l. slot l other) c.take_at-held.ensures.left ∙ slot_other c.loop-at.kept.items at other None (λ e. omega (arith, h, e)) ∙ told.held other (omega (arith, h));
      long = ap length c.take_at-held.ensures.left ∙ length-set c.loop-at.kept.items at None ∙ told.long;
    }

pub returns-then-total-gt-MAX_FOREST_NODES-clause-fault : goal.returns-then-total-gt-MAX_FOREST_NODES-clause-fault
returns-then-total-gt-MAX_FOREST_NODES-clause-fault c =
    let forest = c.args.tops.now.forest in
    let nodes = (out-Forest forest).nodes.items in
    let told = c.loop-at.invariant in
    let at = c.loop-at.at in
    let node = c.node_at-node.result.now in
    let o = out-Node node in
    let tops = trees_of forest in
    let start = trees_of_nodes c.loop-at.nodes.items in
    let held = c.take_at-held.result in
    let below = trees_of held.children in
    let is : slot c.args.kept.now.items at ≡ Some held = sym (told.held at (omega arith)) ∙ c.take_at-held.ensures.taken in
    let resolved = kept_at forest at node c.args.kept.now.items held (omega (arith, (out-Forest forest).nodes.ok.0)) c.node_at-node.ensures c.requires.are_kept is in
    let stays : removes o.key ≡ false = sym (c.removes.ensures ∙ ap removes (c.as_bytes.ensures.value ∙ c.as_str.ensures)) ∙ c.if-removes.false in
    let next = added o.key o.value o.place below start in
    let all = count_added o.key o.value o.place below start in
    let large : MAX_FOREST_NODES < count next = omega (arith, all, told.total, told.small, held.counted, c.saturating_add.ensures, c.saturating_add-total.ensures) in
    inr
    (tops_large nodes at node tops start below next _ _ (omega (arith, (out-Forest forest).nodes.ok.0)) c.node_at-node.ensures stays resolved refl
    (within_large MAX_FOREST_NODES o.place next large) told.rest)

pub returns-clause-done : goal.returns-clause-done
returns-clause-done c =
    let forest = c.args.tops.now.forest in
    let tops = trees_of forest in
    sym c.loop-at.invariant.rest
    ∙ ap (λ l. resolved_tops (trees_of_nodes l) tops (trees_of_nodes c.loop-at.nodes.items)) (drop_all c.loop-at.at (out-Forest forest).nodes.items (omega (arith, (out-Forest forest).nodes.ok.0)))
    ∙ ap Ok (sym (trees_roll (record { nodes = c.loop-at.nodes })))

pub take_at-held-requires : goal.take_at-held-requires
take_at-held-requires c =
    let forest = c.args.tops.now.forest in
    let told = c.loop-at.invariant in
    let at = c.loop-at.at in
    let node = c.node_at-node.result.now in
    let place : at < width (trees_of forest) = omega (arith, width_forest forest, (out-Forest forest).nodes.ok.0) in
    let key : key_from at (trees_of forest) ≡ (out-Node node).key = sym (node_key forest at node place c.node_at-node.ensures) in
    let stays : removes (out-Node node).key ≡ false = sym (c.removes.ensures ∙ ap removes (c.as_bytes.ensures.value ∙ c.as_str.ensures)) ∙ c.if-removes.false in
    record {
      place = omega (arith, told.long, place);
      kept = ap is_some (told.held at (omega arith)) ∙ c.requires.all at place (ap removes key ∙ stays);
    }
