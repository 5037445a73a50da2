-- How many cells have ore, row by row and in all.
use Rattle.std.specs.Prelude.{◌≡◌, ◌<◌, ◌+◌, ◌-◌, ◌*◌, nat_lt, ℕ, Bool, cond, List, length, take, drop}
use Rattle.std.specs.Prelude.{slice_index}
use Rattle.std.specs.List.{count_by}
use Rattle.game_model.specs.Grid.{Grid}

-- The cell has ore.
abbrev pub has_ore : ℕ → Bool
has_ore bales = nat_lt 0 bales

-- The values of a row.
abbrev pub row_of : List ℕ → (width y : ℕ) → List ℕ
row_of cells width y = take width (drop (y * width) cells)

-- The cells of a row that have ore.
abbrev pub ore_in_row : Grid ℕ → ℕ → ℕ
ore_in_row ore y = count_by has_ore (row_of ore.cells ore.width y)

-- The cells that have ore.
abbrev pub cells_with_ore : Grid ℕ → ℕ
cells_with_ore ore = count_by has_ore ore.cells

-- A count after something that was in it or not is in it or not.
abbrev pub recounted : (count : ℕ) → (was is : Bool) → ℕ
recounted count was is = count + cond is 1 0 - cond was 1 0

-- The numbers that are kept beside the cells count them.
pub record AreCounted (width height : ℕ) (cells rows : List ℕ) (total : ℕ) : Type 0 where
  pub whole : length cells ≡ width * height
  pub each : length rows ≡ height
  pub by_row :
      (y : ℕ) → y < height → slice_index rows y ≡ count_by has_ore (row_of cells width y)
  pub in_all : total ≡ count_by has_ore cells
