use Rattle.std.proofs.Common.{◌≡◌, drop}
use Rattle.yaml_lines.specs.Trees.{trees_of, trees_of_nodes}
use Rattle.map_grid.specs.Each.{each}
use Rattle.map_grid.specs.Rows.{tiles_taken}
use Rattle.map_grid.proofs.rows.take_all_tiles.Given as goal

abbrev pub invariant-loop-node : goal.invariant-loop-node
invariant-loop-node l =
    each tiles_taken l.tiles (trees_of_nodes (drop l.node-index l.node-items))
    ≡ each tiles_taken l.initial.tiles (trees_of l.rows)
