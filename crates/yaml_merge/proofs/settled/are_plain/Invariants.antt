use Rattle.std.proofs.Common.{drop}
use Rattle.yaml_lines.specs.Trees.{trees_of_nodes}
use Rattle.yaml_merge.proofs.PlainSteps.{TopsSoFar}
use Rattle.yaml_merge.proofs.settled.are_plain.Given as goal

abbrev pub invariant-loop-node : goal.invariant-loop-node
invariant-loop-node l = TopsSoFar (trees_of_nodes (drop l.node-index l.nodes)) (trees_of_nodes l.nodes) l.total
