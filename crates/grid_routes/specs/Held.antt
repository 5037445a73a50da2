-- Cells in buckets.
use Rattle.std.specs.Prelude.{◌≡◌, ℕ, ◌+◌, ◌*◌, ◌<◌, ◌≤◌, ◌++◌, nat_lt, if◌then◌else◌, Bool, true}
use Rattle.std.specs.Prelude.{List}
use Rattle.std.specs.Int.{from_bool}
use Rattle.std.specs.Prelude.{length, replicate}
use Rattle.std.specs.Prelude.{slice_index_or, slice_set}
use Rattle.world_units.specs.declared.cell.CPos.{CPos}

-- The cells of buckets with room for so many each, how many each holds, and whether one may be
-- missing. The first cells of all buckets stand first, then the second ones, and so on, as many rows
-- as a bucket has held.
pub record Shelves : Type 0 where
  pub room : ℕ
  pub cells : List CPos
  pub lens : List ℕ
  pub lost : Bool

-- How many cells a bucket holds.
abbrev pub len_of : Shelves → ℕ → ℕ
len_of shelves b = slice_index_or shelves.lens b 0

-- There are 71 buckets, and none holds more than there are rows.
pub record IsWhole (shelves : Shelves) : Type 0 where
  pub rows : ℕ
  pub cells : length shelves.cells ≡ 71 * rows
  pub lens : length shelves.lens ≡ 71
  pub fits : (b : ℕ) → len_of shelves b ≤ rows
  pub low : rows ≤ shelves.room

-- The cell at a place of a bucket.
pub record IsAt (shelves : Shelves) (b i : ℕ) (p : CPos) : Type 0 where
  pub within : i < len_of shelves b
  pub cell : slice_index_or shelves.cells (i * 71 + b) p ≡ p

-- The bucket has the cell.
pub record IsHeld (shelves : Shelves) (b : ℕ) (p : CPos) : Type 0 where
  pub place : ℕ
  pub at : IsAt shelves b place p

-- What a row holds before a cell is put in.
abbrev pub corner : CPos
corner = record { x = 0; y = 0 }

-- The cells with one row more where they end before a place.
abbrev pub widened : List CPos → ℕ → List CPos
widened cells place =
    if nat_lt place (length cells) then cells else cells ++ replicate 71 corner

-- Buckets with a cell more in one of them.
abbrev pub more : Shelves → ℕ → CPos → Shelves
more s b p =
    let place = len_of s b * 71 + b in
    record s {
      cells = slice_set (widened s.cells place) place p;
      lens = slice_set s.lens b (len_of s b + 1);
    }

-- The same, or the note that the cell is missing, where the bucket is full.
abbrev pub pushed : Shelves → ℕ → CPos → Shelves
pushed s b p = if nat_lt (len_of s b) s.room then more s b p else record s { lost = true }

-- Buckets with a cell written after the last one of a bucket, which holds it only if so told.
abbrev pub tried : Shelves → ℕ → CPos → Bool → Shelves
tried s b p held =
    let place = len_of s b * 71 + b in
    record s {
      cells = slice_set s.cells place p;
      lens = slice_set s.lens b (len_of s b + from_bool held);
    }

-- There are rows for so many cells more in a bucket.
pub record HasRows (shelves : Shelves) (b count : ℕ) : Type 0 where
  pub fit : (len_of shelves b + count) * 71 ≤ length shelves.cells

-- Buckets one of which is emptied.
abbrev pub emptied : Shelves → ℕ → Shelves
emptied s b = record s { lens = slice_set s.lens b 0 }
