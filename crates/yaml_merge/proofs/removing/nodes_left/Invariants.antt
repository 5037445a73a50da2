use Rattle.yaml_merge.proofs.RemoveSteps.{LeftSoFar}
use Rattle.yaml_merge.proofs.removing.nodes_left.Given as goal

abbrev pub invariant-loop-node : goal.invariant-loop-node
invariant-loop-node l = LeftSoFar l.flags l.left l.yielded l.nodes.items
