use Rattle.std.proofs.Common.{drop}
use Rattle.yaml_lines.specs.Trees.{trees_of_nodes}
use Rattle.yaml_merge.specs.Settled.{IsOnce}
use Rattle.yaml_merge.proofs.distinct.few_once.Given as goal

abbrev pub invariant-loop-at : goal.invariant-loop-at
invariant-loop-at l = IsOnce (trees_of_nodes (drop l.at l.nodes)) → IsOnce (trees_of_nodes l.nodes)
