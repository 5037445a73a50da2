-- How nodes are written as lines.
use Rattle.std.specs.Prelude.{ℕ, List, [], ◌∷◌, ◌++◌, if◌then◌else◌, ◌==◌, replicate}
use Rattle.yaml_lines.specs.Blanks.{begins_blank, ends_blank}
use Rattle.yaml_lines.specs.Reading.{Words}
use Rattle.yaml_lines.specs.Kept.{Kept}

-- Each `#` is written `\#`.
abbrev pub escape : List ℕ → List ℕ
escape [] = []
escape (byte ∷ rest) = if byte == 35 then 92 ∷ 35 ∷ escape rest else byte ∷ escape rest

-- A backslash keeps a blank at the start of a value, and one keeps a blank at its end.
abbrev pub start_guard : List ℕ → List ℕ
start_guard value = if begins_blank value then 92 ∷ [] else []

abbrev pub end_guard : List ℕ → List ℕ
end_guard value = if ends_blank value then 92 ∷ [] else []

-- A value that isn't empty stands after a space.
abbrev pub printed_value : List ℕ → List ℕ
printed_value [] = []
printed_value (byte ∷ rest) = 32 ∷ (start_guard (byte ∷ rest) ++ (escape (byte ∷ rest) ++ end_guard (byte ∷ rest)))

-- A line without its indent and its LF: the key, a colon, the value.
abbrev pub printed_text : List ℕ → List ℕ → List ℕ
printed_text key value = escape key ++ 58 ∷ printed_value value

-- One tab a level.
abbrev pub tabs : ℕ → List ℕ
tabs level = replicate level 9

unfoldable pub printed_line : Words → List ℕ
printed_line words = (tabs words.level ++ printed_text words.key words.value) ++ 10 ∷ []

-- The lines of nodes, one after the other.
abbrev pub printed : List Kept → List ℕ
printed [] = []
printed (node ∷ rest) = printed_line node.words ++ printed rest
