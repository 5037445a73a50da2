-- A block of 624 words of the sequence.
use Rattle.std.specs.Prelude.{◌≡◌, ℕ, ◌+◌, ◌<◌, ◌≤◌, List, slice_index}
use Rattle.twister.specs.Sequence.{x_of}

-- The block has the words of the sequence from a place on.
pub record HoldsFrom (seed base : ℕ) (block : List ℕ) : Type 0 where
  pub word : (j : ℕ) → j < 624 → slice_index block j ≡ x_of seed (base + j)

-- The block's words below k are those of the next block, the others those of this one.
pub record IsRenewedTo (seed base k : ℕ) (block : List ℕ) : Type 0 where
  pub done : (j : ℕ) → j < k → slice_index block j ≡ x_of seed (base + 624 + j)
  pub left : (j : ℕ) → k ≤ j → j < 624 → slice_index block j ≡ x_of seed (base + j)
