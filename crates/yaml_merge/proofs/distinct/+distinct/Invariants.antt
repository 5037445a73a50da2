use Rattle.std.proofs.Common.{drop}
use Rattle.yaml_lines.specs.Trees.{trees_of_nodes}
use Rattle.yaml_merge.proofs.DistinctSteps.{DistinctSoFar}
use Rattle.yaml_merge.proofs.distinct.+distinct.Given as goal

abbrev pub invariant-are_distinct-loop-node : goal.invariant-are_distinct-loop-node
invariant-are_distinct-loop-node l = DistinctSoFar (trees_of_nodes (drop l.node-index l.nodes)) (trees_of_nodes l.nodes)
