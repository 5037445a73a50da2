-- The cause of a failed call: the count of faults of the object that was handed in rose in that
-- call.
use Rattle.std.specs.Prelude.{ℕ, ◌+◌, ◌-◌, ◌^◌, ◌≤◌, min}

-- A count went up, or stands at the greatest 64-bit number, above which it cannot go.
abbrev pub Increased : ℕ → ℕ → Type 0
Increased before now = min (before + 1) (2 ^ 64 - 1) ≤ now
