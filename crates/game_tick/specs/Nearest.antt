-- The nearest of some things.
use Rattle.std.specs.Prelude.{ℕ, nat_lt, ◌*◌, ◌/◌, ◌%◌, if◌then◌else◌, List, map, Option, filter}
use Rattle.std.specs.List.{reduce, range_with_len}
use Rattle.std.specs.Option.{unwrap_or}
use Rattle.world_units.specs.declared.cell.CPos.{CPos}
use Rattle.world_units.specs.Cells.{dist_sq_of}
use Rattle.game_model.specs.Grid.{Grid, at_cell}
use Rattle.game_model.specs.OreRows.{has_ore}

-- The one whose number is less, the first where both have the same.
abbrev pub lesser_by : {T : Type 0} → (T → ℕ) → T → T → T
lesser_by number first second = if nat_lt (number second) (number first) then second else first

-- The first of those whose number is least.
abbrev pub first_least : {T : Type 0} → (T → ℕ) → List T → Option T
first_least number things = reduce (lesser_by number) things

-- The cell at a place in the list of all cells of a map of this width.
abbrev pub cell_of : (width place : ℕ) → CPos
cell_of width place = record { x = place % width; y = place / width }

-- All cells of a map, row by row.
abbrev pub cells_of : (width height : ℕ) → List CPos
cells_of width height = map (cell_of width) (range_with_len 0 (width * height))

-- The ore of a cell.
abbrev pub ore_at : Grid ℕ → CPos → ℕ
ore_at ore p = unwrap_or (at_cell ore p) 0

-- The cell with ore that is nearest to a cell. Of those that are equally near, the least row
-- decides, then the least column.
unfoldable pub nearest_ore : Grid ℕ → CPos → Option CPos
nearest_ore ore from =
    first_least (dist_sq_of from)
    (filter (λ p. has_ore (ore_at ore p)) (cells_of ore.width ore.height))
