use Rattle.std.proofs.Common.{◌≡◌, drop}
use Rattle.yaml_lines.specs.Trees.{trees_of, trees_of_nodes}
use Rattle.map_grid.specs.Each.{each}
use Rattle.map_grid.specs.Rows.{ore_taken}
use Rattle.map_grid.proofs.rows.take_all_ore.Given as goal

abbrev pub invariant-loop-node : goal.invariant-loop-node
invariant-loop-node l =
    each ore_taken l.ore (trees_of_nodes (drop l.node-index l.node-items))
    ≡ each ore_taken l.initial.ore (trees_of l.rows)
