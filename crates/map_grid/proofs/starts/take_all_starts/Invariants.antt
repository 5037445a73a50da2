use Rattle.std.proofs.Common.{◌≡◌, drop}
use Rattle.yaml_lines.specs.Trees.{trees_of, trees_of_nodes}
use Rattle.map_grid.specs.Each.{each}
use Rattle.map_grid.specs.Starts.{start_taken}
use Rattle.map_grid.proofs.starts.take_all_starts.Given as goal

abbrev pub invariant-loop-actor : goal.invariant-loop-actor
invariant-loop-actor l =
    (l.crowd.width ≡ l.fn.width) × (l.crowd.height ≡ l.fn.height)
    × (each (start_taken l.rules l.fn.width l.fn.height) l.crowd.starts (trees_of_nodes (drop l.actor-index l.actor-items))
    ≡ each (start_taken l.rules l.fn.width l.fn.height) l.initial.crowd.starts (trees_of l.actors))
