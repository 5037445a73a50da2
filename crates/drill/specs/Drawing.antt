-- Random draws one after the other.
use Rattle.std.specs.Prelude.{ℕ}
use Rattle.twister.specs.Place.{Place, after_word}
use Rattle.twister.specs.Sequence.{draw_of}

-- What is made of the words that are drawn from a place on, and the place after them.
abbrev pub Drawing : Type 0 → Type 0
Drawing A = Place → A × Place

-- Draws, and then what is drawn after them.
infixl 10 ◌>>=◌
abbrev pub ◌>>=◌ : {A B : Type 0} → Drawing A → (A → Drawing B) → Drawing B
(first >>= next) place = next (first place).0 (first place).1

-- This value, with no draw.
abbrev pub given : {A : Type 0} → A → Drawing A
given value place = (value, place)

-- One draw below a bound.
abbrev pub below : ℕ → Drawing ℕ
below bound place = (draw_of place.seed place.drawn bound, after_word place)
