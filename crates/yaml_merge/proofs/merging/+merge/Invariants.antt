use Rattle.std.proofs.Common.{◌≡◌, drop}
use Rattle.yaml_lines.specs.Trees.{trees_of, trees_of_nodes}
use Rattle.yaml_merge.specs.Merging.{merged_into}
use Rattle.yaml_merge.proofs.merging.+merge.Given as goal

abbrev pub invariant-loop-node : goal.invariant-loop-node
invariant-loop-node l = merged_into (trees_of_nodes (drop l.node-index l.node-items)) l.list ≡ merged_into (trees_of l.new) l.fn.old
