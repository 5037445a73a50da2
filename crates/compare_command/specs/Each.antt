-- Differences by rising number.
use Rattle.std.specs.Prelude.{ℕ, zero, suc, ◌+◌, Bool, true, false, List, [], ◌∷◌, ◌++◌}
use Rattle.compare_command.specs.Difference.{Difference}

-- The differences of each of so many numbers from this one on.
abbrev pub each : (ℕ → List Difference) → (from count : ℕ) → List Difference
each found from zero = []
each found from (suc count) = found from ++ each found (from + 1) count

-- There is a difference.
abbrev pub is_any : List Difference → Bool
is_any [] = false
is_any (difference ∷ differences) = true

-- These differences, or the others where there is none.
abbrev pub or_else : List Difference → List Difference → List Difference
or_else [] others = others
or_else (difference ∷ differences) others = difference ∷ differences

-- The differences of the least of so many numbers from this one on that has any.
abbrev pub least : (ℕ → List Difference) → (from count : ℕ) → List Difference
least found from zero = []
least found from (suc count) = or_else (found from) (least found (from + 1) count)
