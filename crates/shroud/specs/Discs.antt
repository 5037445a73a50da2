-- The cells around a cell within a range.
use Rattle.std.specs.Prelude.{ℕ, ◌+◌, ◌/◌, ◌<◌, ◌≤◌, nat_le, Bool}
use Rattle.world_units.specs.declared.cell.CPos.{CPos}
use Rattle.world_units.specs.Cells.{apart, square}
use Rattle.shroud.specs.declared.disc.Disc.{Disc}
use Rattle.shroud.specs.declared.disc.Span.{Span}

-- The disc of a range in units around a cell, in cells.
abbrev pub disc_of : CPos → (range : ℕ) → Disc
disc_of cell range =
    record { centre = cell; reach = range / 1024; most = square range / 1048576 }

-- The disc has the cell of a column and a row.
abbrev pub covers : Disc → (x y : ℕ) → Bool
covers disc x y =
    nat_le (square (apart disc.centre.x x) + square (apart disc.centre.y y)) disc.most

-- The numbers below the side that are at most so far from the middle are those of the span.
pub record IsSpan (middle reach side : ℕ) (span : Span) : Type 0 where
  pub within : span.end ≤ side
  pub rises : span.first ≤ span.end
  pub first : (n : ℕ) → apart middle n ≤ reach → span.first ≤ n
  pub last : (n : ℕ) → n < side → apart middle n ≤ reach → n < span.end

-- No cell of the disc is farther in its row or in its column.
pub record IsDisc (disc : Disc) : Type 0 where
  pub reach : (n : ℕ) → square n ≤ disc.most → n ≤ disc.reach
