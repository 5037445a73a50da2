-- A flag for each number that a kind can have.
use Rattle.std.specs.Prelude.{ℕ, ◌/◌, ◌%◌, ◌==◌, if◌then◌else◌, Bool, true, false, List, map}
use Rattle.std.specs.Prelude.{slice_index, slice_index_or, replicate, slice_set}
use Rattle.std.specs.Int.{bit_at}
use Rattle.std.specs.List.{range_with_len}
use Rattle.rule_traits.specs.declared.TheConstants.{MAX_KINDS}

-- The flag of a kind in words of 64 flags, and all flags.
abbrev pub flag_in : (words : List ℕ) → (kind : ℕ) → Bool
flag_in words kind = bit_at (slice_index words (kind / 64)) (kind % 64) == 1

unfoldable pub flags_in : (words : List ℕ) → List Bool
flags_in words = map (flag_in words) (range_with_len 0 MAX_KINDS)

-- The flag of a kind: not set where the number is past the flags.
abbrev pub flag_of : List Bool → (kind : ℕ) → Bool
flag_of flags kind = slice_index_or flags kind false

-- No flag is set.
abbrev pub no_flags : List Bool
no_flags = replicate MAX_KINDS false

-- The flag of a kind is set, if it is to be.
abbrev pub with_flag : List Bool → (kind : ℕ) → (on : Bool) → List Bool
with_flag flags kind on = if on then slice_set flags kind true else flags
