use Rattle.std.proofs.Common.{◌≡◌, drop}
use Rattle.yaml_lines.specs.Trees.{trees_of, trees_of_nodes}
use Rattle.map_grid.specs.Fields.{field}
use Rattle.map_grid.proofs.fields.find.Given as goal

abbrev pub invariant-loop-node : goal.invariant-loop-node
invariant-loop-node l = field l.key (trees_of_nodes (drop l.node-index l.node-items)) ≡ field l.key (trees_of l.forest)
