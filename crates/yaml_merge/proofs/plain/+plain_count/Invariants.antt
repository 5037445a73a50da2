use Rattle.std.proofs.Common.{drop}
use Rattle.yaml_lines.specs.Trees.{trees_of, trees_of_nodes}
use Rattle.yaml_merge.proofs.PlainSteps.{PlainSoFar}
use Rattle.yaml_merge.proofs.plain.+plain_count.Given as goal

abbrev pub invariant-loop-node : goal.invariant-loop-node
invariant-loop-node l = PlainSoFar (trees_of_nodes (drop l.node-index l.node-items)) (trees_of l.list) l.total
