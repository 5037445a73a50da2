-- Departure flags, one for each client by rising number.
use Rattle.std.specs.Prelude.{ℕ, Bool, true, List, slice_index_or}

-- Client c has departed. A client that the match has not counts as departed.
abbrev pub is_gone : List Bool → ℕ → Bool
is_gone gone c = slice_index_or gone c true
