-- A value for each cell of a map, row by row.
use Rattle.std.specs.Prelude.{◌≡◌, ℕ, ◌+◌, ◌*◌, ◌<◌, ◌&&◌, nat_lt, Bool, List, Option, length, slice_get}
use Rattle.std.specs.Prelude.{slice_set}
use Rattle.world_units.specs.declared.cell.CPos.{CPos}

pub record Grid (T : Type 0) : Type 0 where
  pub width : ℕ
  pub height : ℕ
  pub cells : List T

-- The place of a cell in the list of all cells of a map of this width.
abbrev pub place_of : ℕ → CPos → ℕ
place_of width p = p.y * width + p.x

-- The cell is on a map of this size.
pub record IsOn (width height : ℕ) (p : CPos) : Type 0 where
  pub column : p.x < width
  pub row : p.y < height

-- The same as a test.
abbrev pub is_on : ℕ → ℕ → CPos → Bool
is_on width height p = nat_lt p.x width && nat_lt p.y height

-- The value at a cell.
abbrev pub at_cell : {T : Type 0} → Grid T → CPos → Option T
at_cell grid p = slice_get grid.cells (place_of grid.width p)

-- The grid with another value at a cell.
abbrev pub with_cell : {T : Type 0} → Grid T → CPos → T → Grid T
with_cell grid p value = record grid { cells = slice_set grid.cells (place_of grid.width p) value }

-- The grid has this size.
pub record HasSize {T : Type 0} (across down : ℕ) (grid : Grid T) : Type 0 where
  pub width : grid.width ≡ across
  pub height : grid.height ≡ down

-- The grid has a value for each cell of its size.
pub record IsWhole {T : Type 0} (grid : Grid T) : Type 0 where
  pub cells : length grid.cells ≡ grid.width * grid.height
