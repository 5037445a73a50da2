-- The kept lines of a text, and its first line at fault.
use Rattle.std.specs.Prelude.{◌≡◌, ℕ, ◌+◌, not, List, [], ◌∷◌, ◌++◌, length, if◌then◌else◌, nat_lt}
use Rattle.std.specs.Prelude.{nat_le, Option, Some, None, ◌⊎◌}
use Rattle.std.specs.Str.{is_utf8}
use Rattle.base.specs.Lines.{lines_of}
use Rattle.yaml_lines.specs.declared.place.Place.{Place}
use Rattle.yaml_lines.specs.declared.fault.LineFault.{LineFault}
use Rattle.yaml_lines.specs.declared.fault.LineFault.TheVariants.{NotUtf8, BadIndent, TooDeep}
use Rattle.yaml_lines.specs.declared.fault.LineFault.TheVariants.{LineTooLong, TooManyLines}
use Rattle.yaml_lines.specs.declared.fault.LineFault.TheVariants.{NoMemory}
use Rattle.yaml_lines.specs.declared.TheConstants.{MAX_LINES, MAX_LINE_BYTES, MAX_LEVELS}
use Rattle.yaml_lines.specs.Reading.{Words, words_of}

-- A kept line, or a node of a forest: what it says, and where it stands.
pub record Kept : Type 0 where
  pub words : Words
  pub place : Place

abbrev pub kept_of : Place → Option Words → List Kept
kept_of place None = []
kept_of place (Some words) = record { words = words; place = place } ∷ []

-- The kept lines of a file, each read by itself, from line number `line` on.
abbrev pub kept_from : ℕ → ℕ → List (List ℕ) → List Kept
kept_from file line [] = []
kept_from file line (text ∷ rest) =
    kept_of (record { file = file; line = line }) (words_of text) ++ kept_from file (line + 1) rest

abbrev pub kept_lines : ℕ → List ℕ → List Kept
kept_lines file bytes = kept_from file 1 (lines_of bytes)

-- What is wrong with the level of a kept line, where levels up to `allowed` may follow.
abbrev pub level_fault : Place → ℕ → Option Words → Option LineFault
level_fault place allowed None = None
level_fault place allowed (Some words) =
    if nat_lt allowed words.level then Some (BadIndent place)
    else (if nat_le MAX_LEVELS words.level then Some (TooDeep place) else None)

-- The first fault of a line.
unfoldable pub line_fault : Place → ℕ → List ℕ → Option LineFault
line_fault place allowed line =
    if nat_lt MAX_LINES place.line then Some (TooManyLines place)
    else (if not (is_utf8 line) then Some (NotUtf8 place)
    else (if nat_lt MAX_LINE_BYTES (length line) then Some (LineTooLong place)
    else level_fault place allowed (words_of line)))

-- The levels that may follow a line: up to one more than that of the last kept line.
abbrev pub allowed_after : ℕ → Option Words → ℕ
allowed_after allowed None = allowed
allowed_after allowed (Some words) = words.level + 1

abbrev pub or_later : Option LineFault → Option LineFault → Option LineFault
or_later None later = later
or_later (Some fault) later = Some fault

-- The fault of the earliest line that has one.
abbrev pub fault_from : ℕ → ℕ → ℕ → List (List ℕ) → Option LineFault
fault_from file line allowed [] = None
fault_from file line allowed (text ∷ rest) =
    or_later (line_fault (record { file = file; line = line }) allowed text)
    (fault_from file (line + 1) (allowed_after allowed (words_of text)) rest)

-- The first line fault of a file: the first kept line is at level 0.
abbrev pub first_line_fault : ℕ → List ℕ → Option LineFault
first_line_fault file bytes = fault_from file 1 0 (lines_of bytes)

-- The answer is this fault, or out of memory in its place.
abbrev pub IsLineFault : LineFault → Option LineFault → Type 0
IsLineFault fault first = (fault ≡ NoMemory) ⊎ (first ≡ Some fault)
