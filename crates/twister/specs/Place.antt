-- A place in the sequence of words of a seed, and the words that are drawn from there on.
use Rattle.std.specs.Prelude.{ℕ, zero, suc, ◌+◌, List, [], ◌∷◌}
use Rattle.twister.specs.Sequence.{word_of}

-- The seed, and how many words were drawn.
pub record Place : Type 0 where
  pub seed : ℕ
  pub drawn : ℕ

-- The beginning of the sequence.
abbrev pub start_of : ℕ → Place
start_of seed = record { seed = seed; drawn = 0 }

-- The word that is drawn at a place, and the place after it.
abbrev pub word_at : Place → ℕ
word_at place = word_of place.seed place.drawn

abbrev pub after_word : Place → Place
after_word place = record place { drawn = place.drawn + 1 }

-- So many words, drawn one after the other.
abbrev pub words_from : ℕ → Place → List ℕ
words_from zero place = []
words_from (suc count) place = word_at place ∷ words_from count (after_word place)
