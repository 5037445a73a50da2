-- Cells, which are 1024 units wide: which are the same, and how far they are apart.
use Rattle.std.specs.Prelude.{ℕ, ◌+◌, ◌-◌, ◌*◌, ◌==◌, ◌&&◌, Bool}
use Rattle.world_units.specs.declared.cell.CPos.{CPos}

-- The two are one cell.
abbrev pub same_cell : CPos → CPos → Bool
same_cell a b = (a.x == b.x) && (a.y == b.y)

-- How far apart two numbers are: one of the two differences is 0.
abbrev pub apart : ℕ → ℕ → ℕ
apart a b = (a - b) + (b - a)

abbrev pub square : ℕ → ℕ
square n = n * n

-- The square of the distance between the centres of two cells.
abbrev pub dist_sq_of : CPos → CPos → ℕ
dist_sq_of a b = square (1024 * apart a.x b.x) + square (1024 * apart a.y b.y)
