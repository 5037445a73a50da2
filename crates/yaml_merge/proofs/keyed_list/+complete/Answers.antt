use Rattle.std.proofs.Common.{◌∙◌, ap, sym}
use Rattle.yaml_lines.specs.Trees.{trees_of_nodes}
use Rattle.yaml_merge.specs.Resolving.{added}
use Rattle.yaml_merge.proofs.NodeSteps.{added_last, node_made}
use Rattle.yaml_merge.proofs.SlotSteps.{added_standing, dead_standing}
use Rattle.yaml_merge.proofs.keyed_list.+complete.Goals as goal

pub loop-slot-preserved-in-Continue-branch-3 : goal.loop-slot-preserved-in-Continue-branch-3
loop-slot-preserved-in-Continue-branch-3 t c =
    let slot = c.in-Some.slot in
    ap trees_of_nodes (c.in_ok-push.ensures {u = tt}).items
    ∙ added_last c.loop-slot.nodes.items slot.key slot.value slot.place slot.children _
    (node_made slot.key slot.value slot.place c.in_ok-children.children slot.children (c.in_ok-children.ensures {u = tt}))
    ∙ ap (added slot.key slot.value slot.place slot.children) c.loop-slot.invariant
    ∙ sym (added_standing c.loop-slot.yielded slot c.if-live.true)

pub loop-slot-preserved-else-live : goal.loop-slot-preserved-else-live
loop-slot-preserved-else-live t c = c.loop-slot.invariant ∙ sym (dead_standing c.loop-slot.yielded c.in-Some.slot c.if-live.false)

pub loop-slot-preserved : goal.loop-slot-preserved
loop-slot-preserved t c = c.loop-slot.invariant ∙ sym (dead_standing c.loop-slot.yielded c.in-Some.slot c.if-live.false)
