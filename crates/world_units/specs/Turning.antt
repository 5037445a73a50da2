-- Turns from a facing towards an aim, on a circle of 1024 units.
use Rattle.std.specs.Prelude.{◌≡◌, ℕ, zero, suc, ◌+◌, ◌-◌, ◌%◌, ◌<◌, ◌≤◌, min, ◌||◌, nat_lt}
use Rattle.std.specs.Prelude.{if◌then◌else◌}

-- How far the aim is from the facing over lower angles, and over higher ones.
abbrev pub left_of : ℕ → ℕ → ℕ
left_of f d = (f + 1024 - d) % 1024

abbrev pub right_of : ℕ → ℕ → ℕ
right_of f d = (d + 1024 - f) % 1024

-- One turn: to the aim where less than a whole turn is left on either side, else by a whole turn
-- over the shorter side.
abbrev pub turn_of : ℕ → ℕ → ℕ → ℕ
turn_of f d by =
    if nat_lt (left_of f d) by || nat_lt (right_of f d) by then d
    else (if nat_lt (right_of f d) (left_of f d) then (f + by) % 1024 else (f + 1024 - by) % 1024)

-- The distance over the shorter side.
abbrev pub gap_of : ℕ → ℕ → ℕ
gap_of f d = min (left_of f d) (right_of f d)

-- What lies between the facing and where it turned to is on the shorter side, and no longer than
-- the turn or the way.
pub record TakesShorterSide (f d by new : ℕ) : Type 0 where
  pub right : right_of f d < left_of f d → right_of f new ≡ min by (right_of f d)
  pub left : left_of f d ≤ right_of f d → left_of f new ≡ min by (left_of f d)

-- The facing after so many turns.
abbrev pub turned : ℕ → ℕ → ℕ → ℕ → ℕ
turned f d by zero = f
turned f d by (suc steps) = turned (turn_of f d by) d by steps
