-- The words of a line.
use Rattle.std.specs.Prelude.{ℕ, Bool, true, ◌==◌, ◌||◌, not, List, [], ◌∷◌, filter}
use Rattle.std.specs.List.{slice_split}
use Rattle.base.specs.Lines.{has_bytes}

-- A space, a tab or a carriage return.
abbrev pub is_blank : ℕ → Bool
is_blank byte = byte == 32 || byte == 9 || byte == 13

-- Any byte of a word.
abbrev pub is_of_word : ℕ → Bool
is_of_word byte = not (is_blank byte)

-- A word before these bytes has come to its end.
abbrev pub ends_word : List ℕ → Bool
ends_word [] = true
ends_word (byte ∷ bytes) = is_blank byte

-- The words of a line, which blanks separate.
abbrev pub words_of : List ℕ → List (List ℕ)
words_of line = filter has_bytes (slice_split is_blank line)
