-- A number for each cell of a map.
use Rattle.std.specs.Prelude.{ℕ, if◌then◌else◌, slice_index_or}
use Rattle.world_units.specs.declared.cell.CPos.{CPos}
use Rattle.game_model.specs.Grid.{Grid, place_of, is_on}

-- The number of a cell, and what stands for it off the map.
unfoldable pub value_in : ℕ → Grid ℕ → CPos → ℕ
value_in outside grid p =
    if is_on grid.width grid.height p
    then slice_index_or grid.cells (place_of grid.width p) outside
    else outside
