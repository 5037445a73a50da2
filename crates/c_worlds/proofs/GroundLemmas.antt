-- A cell by its place.
use Rattle.std.proofs.Common.{ℕ, zero, suc, ◌*◌, ◌/◌, ◌%◌, ◌<◌, arith}
use Rattle.std.proofs.Math.Nat.{mod-lt, div-lt_iff_lt-mul, mul_comm}
use Rattle.std.proofs.lemmas.Nat.{div-add-mod'}

some_columns : (width height place : ℕ) → place < width * height → 0 < width
some_columns zero height place within = absurd (omega arith)
some_columns (suc width) height place within = omega arith

pub column_of : (width height place : ℕ) → place < width * height → place % width < width
column_of width height place within = mod-lt place (some_columns width height place within)

pub row_of : (width height place : ℕ) → place < width * height → place / width < height
row_of width height place within =
    (div-lt_iff_lt-mul {k = width} {x = place} {y = height} (some_columns width height place within)).1
    (omega (arith, mul_comm width height))

pub ruleset cell_steps = (column_of, row_of, div-add-mod')
