-- What one line says, read by itself.
use Rattle.std.specs.Prelude.{ℕ, ◌+◌, ◌-◌, ◌/◌, Bool, false, ◌&&◌, ◌||◌, not, List, [], ◌∷◌}
use Rattle.std.specs.Prelude.{if◌then◌else◌, ◌==◌, nat_lt, length, take, slice_index, Option, Some}
use Rattle.std.specs.Prelude.{None}
use Rattle.yaml_lines.specs.Blanks.{begins_blank, is_blank_text, ends_blank, trim}

-- The line after its indent, the longest prefix of tabs and spaces.
abbrev pub after_indent : List ℕ → List ℕ
after_indent [] = []
after_indent (byte ∷ rest) = if byte == 9 || byte == 32 then after_indent rest else byte ∷ rest

-- How many tabs the indent has, and how many spaces.
abbrev pub indent_tabs : List ℕ → ℕ
indent_tabs [] = 0
indent_tabs (byte ∷ rest) = if byte == 9 then indent_tabs rest + 1 else (if byte == 32 then indent_tabs rest else 0)

abbrev pub indent_spaces : List ℕ → ℕ
indent_spaces [] = 0
indent_spaces (byte ∷ rest) = if byte == 32 then indent_spaces rest + 1 else (if byte == 9 then indent_spaces rest else 0)

-- A tab is a level, and so are four spaces.
abbrev pub level_of : List ℕ → ℕ
level_of line = indent_tabs line + indent_spaces line / 4

-- The text before its comment, which begins at the first `#` that has no backslash directly before
-- it. `before` is the byte that stands before the text.
abbrev pub without_comment : ℕ → List ℕ → List ℕ
without_comment before [] = []
without_comment before (byte ∷ rest) =
    if byte == 35 && not (before == 92) then [] else byte ∷ without_comment byte rest

-- What stands before the first colon, and what stands after it.
abbrev pub before_colon : List ℕ → List ℕ
before_colon [] = []
before_colon (byte ∷ rest) = if byte == 58 then [] else byte ∷ before_colon rest

abbrev pub after_colon : List ℕ → List ℕ
after_colon [] = []
after_colon (byte ∷ rest) = if byte == 58 then rest else after_colon rest

-- The text begins with this byte.
abbrev pub begins_with : ℕ → List ℕ → Bool
begins_with byte [] = false
begins_with byte (first ∷ rest) = first == byte

-- The text ends with this byte.
abbrev pub ends_with : ℕ → List ℕ → Bool
ends_with byte text = nat_lt 0 (length text) && slice_index text (length text - 1) == byte

-- The text without its last byte.
abbrev pub without_last : List ℕ → List ℕ
without_last text = take (length text - 1) text

-- A backslash before a first blank keeps that blank, and is dropped.
abbrev pub unguarded_start : List ℕ → List ℕ
unguarded_start [] = []
unguarded_start (byte ∷ rest) = if byte == 92 && begins_blank rest then rest else byte ∷ rest

-- A backslash after a last blank keeps that blank, and is dropped.
unfoldable pub unguarded_end : List ℕ → List ℕ
unguarded_end text = if ends_with 92 text && ends_blank (without_last text) then without_last text else text

-- Each `\#` is a `#`.
abbrev pub unescape : List ℕ → List ℕ
unescape [] = []
unescape (byte ∷ rest) = if byte == 92 && begins_with 35 rest then unescape rest else byte ∷ unescape rest

-- What a line says: its level, key and value.
pub record Words : Type 0 where
  pub level : ℕ
  pub key : List ℕ
  pub value : List ℕ

-- What a text after an indent says.
unfoldable pub key_of : List ℕ → List ℕ
key_of text = unescape (trim (before_colon text))

unfoldable pub value_of : List ℕ → List ℕ
value_of text = unescape (unguarded_end (unguarded_start (trim (after_colon text))))

-- A line of nothing but blanks and a comment says nothing.
unfoldable pub words_of : List ℕ → Option Words
words_of line =
    let text = without_comment 0 (after_indent line) in
    if is_blank_text text then None else Some (record { level = level_of line; key = key_of text; value = value_of text })
