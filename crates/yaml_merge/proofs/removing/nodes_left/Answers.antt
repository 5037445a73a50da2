use Rattle.yaml_merge.proofs.RemoveSteps.{left_next}
use Rattle.yaml_merge.proofs.removing.nodes_left.Goals as goal

pub loop-node-preserved : goal.loop-node-preserved
loop-node-preserved c =
    left_next c.args.flags.now c.loop-node.left.now c.next_flag-keep.result.1.now c.loop-node.yielded c.loop-node.nodes.items c.push_if.new.nodes.items c.in-Some.node
    c.next_flag-keep.result.0 c.next_flag-keep.ensures.first c.next_flag-keep.ensures.rest (c.in_ok-push_if.ensures {u = tt}) c.loop-node.invariant
