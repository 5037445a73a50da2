-- Flags of cells: a grid for each client.
use Rattle.std.specs.Prelude.{ℕ, ◌*◌, ◌/◌, ◌%◌, Bool, false, List, [], map, slice_index_or}
use Rattle.std.specs.List.{range_with_len}
use Rattle.world_units.specs.declared.cell.CPos.{CPos}
use Rattle.game_model.specs.Grid.{Grid, place_of}

-- The cell at a place in the list of all cells of a map of this width.
abbrev pub cell_at : (width place : ℕ) → CPos
cell_at width place = record { x = place % width; y = place / width }

-- The grid of the cells that pass the test.
unfoldable pub grid_of : (width height : ℕ) → (CPos → Bool) → Grid Bool
grid_of width height test =
    record {
      width = width;
      height = height;
      cells = map (λ place. test (cell_at width place)) (range_with_len 0 (width * height));
    }

-- Such a grid for each client, by number.
unfoldable pub grids_of :
    (width height clients : ℕ) → (ℕ → CPos → Bool) → List (Grid Bool)
grids_of width height clients test =
    map (λ c. grid_of width height (test c)) (range_with_len 0 clients)

-- The flag of a cell in a grid: not set outside of it.
abbrev pub is_set : Grid Bool → CPos → Bool
is_set grid p = slice_index_or grid.cells (place_of grid.width p) false

abbrev pub no_grid : Grid Bool
no_grid = record { width = 0; height = 0; cells = [] }

-- The flag of a client's cell.
unfoldable pub flag_of : List (Grid Bool) → (c : ℕ) → CPos → Bool
flag_of grids c p = is_set (slice_index_or grids c no_grid) p
