use Rattle.std.proofs.Common.{◌≡◌, drop, leb}
use Rattle.yaml_lines.specs.Trees.{trees_of, trees_of_nodes}
use Rattle.yaml_merge.specs.Merging.{levels}
use Rattle.yaml_merge.proofs.sizes.+has_levels.Given as goal

abbrev pub invariant-loop-node : goal.invariant-loop-node
invariant-loop-node l = leb (levels (trees_of_nodes (drop l.node-index l.node-items))) l.room ≡ leb (levels (trees_of l.forest)) l.room
