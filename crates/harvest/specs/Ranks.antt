-- The nearest of the cells with ore, in a reader's words.
use Rattle.std.specs.Prelude.{◌≡◌, ℕ, ◌+◌, ◌*◌, ◌<◌, ◌≤◌, nat_le, nat_lt, if◌then◌else◌, Bool, true, false, Option, Some, None}
use Rattle.world_units.specs.declared.cell.CPos.{CPos}
use Rattle.world_units.specs.Cells.{apart, dist_sq_of, square}
use Rattle.game_model.specs.Grid.{Grid, IsOn, place_of}
use Rattle.game_model.specs.OreRows.{has_ore}
use Rattle.game_tick.specs.Nearest.{ore_at}

-- Cells are ranked by their distance from a cell, and those that are equally far by row and then by
-- column. A map has fewer than 65,536 cells.
abbrev pub rank_of : (width : ℕ) → CPos → CPos → ℕ
rank_of width from p = dist_sq_of from p * 65536 + place_of width p

-- The one of two cells whose rank is less.
abbrev pub closer_of : (width : ℕ) → CPos → Option CPos → Option CPos → Option CPos
closer_of width from None second = second
closer_of width from (Some p) None = Some p
closer_of width from (Some p) (Some q) =
    if nat_le (rank_of width from p) (rank_of width from q) then Some p else Some q

-- The cell is one of the grid, and has ore.
pub record IsRich (ore : Grid ℕ) (p : CPos) : Type 0 where
  pub on_grid : IsOn ore.width ore.height p
  pub some : has_ore (ore_at ore p) ≡ true

-- The cell is one of these, and none of them has a lesser rank. There is none exactly where these
-- are no cells.
abbrev pub IsLeast : (width : ℕ) → CPos → (CPos → Type 0) → Option CPos → Type 0
IsLeast width from among (Some p) =
    among p × ((q : CPos) → among q → rank_of width from p ≤ rank_of width from q)
IsLeast width from among None = (q : CPos) → among q → ⊥

-- The cell has ore, and no other cell with ore is nearer, or equally near in a lesser row, or there
-- in a lesser column. There is none exactly where no cell has ore.
abbrev pub IsNearestOre : Grid ℕ → CPos → Option CPos → Type 0
IsNearestOre ore from found = IsLeast ore.width from (IsRich ore) found

-- The cells with ore of a row.
pub record IsRichIn (ore : Grid ℕ) (y : ℕ) (p : CPos) : Type 0 where
  pub rich : IsRich ore p
  pub row : p.y ≡ y

-- The cells with ore of a row that are so many columns from a cell.
pub record IsAside (ore : Grid ℕ) (from : CPos) (y dx : ℕ) (p : CPos) : Type 0 where
  pub rich : IsRich ore p
  pub row : p.y ≡ y
  pub columns : apart from.x p.x ≡ dx

-- The cells with ore that are so many rows from a cell.
pub record IsBeyond (ore : Grid ℕ) (from : CPos) (dy : ℕ) (p : CPos) : Type 0 where
  pub rich : IsRich ore p
  pub rows : apart from.y p.y ≡ dy

-- The cells with ore that are fewer rows from a cell.
pub record IsWithin (ore : Grid ℕ) (from : CPos) (dy : ℕ) (p : CPos) : Type 0 where
  pub rich : IsRich ore p
  pub rows : apart from.y p.y < dy

-- One cell, if it has ore.
pub record IsThis (ore : Grid ℕ) (this p : CPos) : Type 0 where
  pub rich : IsRich ore p
  pub same : p ≡ this

-- The cells with ore of a row that are so many columns to the left, and to the right.
pub record IsLeft (ore : Grid ℕ) (from : CPos) (y dx : ℕ) (p : CPos) : Type 0 where
  pub rich : IsRich ore p
  pub row : p.y ≡ y
  pub column : p.x + dx ≡ from.x

pub record IsRight (ore : Grid ℕ) (from : CPos) (y dx : ℕ) (p : CPos) : Type 0 where
  pub rich : IsRich ore p
  pub row : p.y ≡ y
  pub column : p.x ≡ from.x + dx

-- The cells with ore that are so many rows above, and below.
pub record IsAbove (ore : Grid ℕ) (from : CPos) (dy : ℕ) (p : CPos) : Type 0 where
  pub rich : IsRich ore p
  pub row : p.y + dy ≡ from.y

pub record IsBelow (ore : Grid ℕ) (from : CPos) (dy : ℕ) (p : CPos) : Type 0 where
  pub rich : IsRich ore p
  pub row : p.y ≡ from.y + dy

-- The cell that was found is nearer than any cell so many rows away.
abbrev pub nearer_by : CPos → Option CPos → (dy : ℕ) → Bool
nearer_by from None dy = false
nearer_by from (Some p) dy = nat_lt (dist_sq_of from p) (square (1024 * dy))
