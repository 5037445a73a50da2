-- Angles in units of which a full turn has 1024.
use Rattle.std.specs.Prelude.{ℕ, ◌+◌, ◌-◌, ◌*◌, ◌%◌}

-- The sum of two angles round the circle.
abbrev pub add_angle_of : ℕ → ℕ → ℕ
add_angle_of a b = (a + b) % 1024

-- Directions go clockwise from north by an eighth of a turn, and angles grow the other way.
abbrev pub dir_angle_of : ℕ → ℕ
dir_angle_of d = (1024 - 128 * d) % 1024
