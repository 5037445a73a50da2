-- The kept lines of a text: the lines that have a word, and whose first word isn't a comment.
use Rattle.std.specs.Prelude.{ℕ, ◌+◌, ◌==◌, Bool, false, not, if◌then◌else◌, List, [], ◌∷◌}
use Rattle.base.specs.Lines.{lines_of}
use Rattle.drill_words.specs.Words.{words_of}

-- Any byte of a line: no line feed.
abbrev pub is_of_line : ℕ → Bool
is_of_line byte = not (byte == 10)

-- The word begins with `#`.
abbrev pub is_comment : List ℕ → Bool
is_comment [] = false
is_comment (byte ∷ bytes) = byte == 35

-- A kept line: its number in the text, from 1, and its words.
pub record KeptLine : Type 0 where
  pub number : ℕ
  pub words : List (List ℕ)

-- A line of these words is kept.
abbrev pub is_kept : List (List ℕ) → Bool
is_kept [] = false
is_kept (word ∷ words) = not (is_comment word)

-- The kept lines, where the first line has this number.
abbrev pub kept_from : ℕ → List (List ℕ) → List KeptLine
kept_from number [] = []
kept_from number (line ∷ lines) =
    if is_kept (words_of line)
    then record { number = number; words = words_of line } ∷ kept_from (number + 1) lines
    else kept_from (number + 1) lines

-- The kept lines of a text.
abbrev pub kept_lines : List ℕ → List KeptLine
kept_lines bytes = kept_from 1 (lines_of bytes)
