use Rattle.std.proofs.Common.{drop}
use Rattle.yaml_lines.specs.Trees.{trees_of_nodes}
use Rattle.yaml_merge.specs.Merging.{Lacks}
use Rattle.yaml_merge.proofs.distinct.lacks.Given as goal

abbrev pub invariant-loop-node : goal.invariant-loop-node
invariant-loop-node l = Lacks l.key (trees_of_nodes (drop l.node-index l.nodes)) → Lacks l.key (trees_of_nodes l.nodes)
