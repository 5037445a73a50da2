use Rattle.std.proofs.Common.{◌≡◌, drop}
use Rattle.map_grid.specs.Rows.{cells_set, terrain_of}
use Rattle.map_grid.specs.declared.fault.MapFault.TheVariants.{UnknownTerrain}
use Rattle.map_grid.proofs.rows.set_terrain.Given as goal

abbrev pub invariant-loop-x : goal.invariant-loop-x
invariant-loop-x l =
    (l.tiles.width ≡ l.initial.tiles.width) × (l.tiles.height ≡ l.initial.tiles.height)
    × (cells_set terrain_of (UnknownTerrain l.fn.place) l.x l.fn.y (drop l.x l.row) l.tiles
    ≡ cells_set terrain_of (UnknownTerrain l.fn.place) 0 l.fn.y l.row l.initial.tiles)
