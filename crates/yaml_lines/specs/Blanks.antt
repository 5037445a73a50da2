-- Blanks, and texts without the blanks at their ends. A text is the list of its UTF-8 bytes.
use Rattle.std.specs.Prelude.{ℕ, zero, suc, Bool, true, false, ◌&&◌, ◌||◌, List, [], ◌∷◌}
use Rattle.std.specs.Prelude.{if◌then◌else◌, ◌==◌, nat_lt, nat_le, ◌-◌, length, slice_index}

-- A blank of one byte: space, tab and carriage return.
abbrev pub is_blank_byte : ℕ → Bool
is_blank_byte byte = byte == 32 || byte == 9 || byte == 13

-- The other blank is U+FEFF, in UTF-8 the bytes 239, 187 and 191. These two tests look for its last
-- byte and its last two.
abbrev pub begins_191 : List ℕ → Bool
begins_191 [] = false
begins_191 (byte ∷ rest) = byte == 191

abbrev pub begins_187_191 : List ℕ → Bool
begins_187_191 [] = false
begins_187_191 (byte ∷ rest) = byte == 187 && begins_191 rest

-- How many bytes the blank has with which the text begins: 0 where it begins with none.
abbrev pub blank_len : List ℕ → ℕ
blank_len [] = 0
blank_len (byte ∷ rest) = if is_blank_byte byte then 1 else (if byte == 239 && begins_187_191 rest then 3 else 0)

-- The text begins with a blank.
abbrev pub begins_blank : List ℕ → Bool
begins_blank text = nat_lt 0 (blank_len text)

-- The text without the blanks at its start. The number says how many bytes of the last blank are
-- still to be passed over.
abbrev pub after_blanks : ℕ → List ℕ → List ℕ
after_blanks skip [] = []
after_blanks (suc skip) (byte ∷ rest) = after_blanks skip rest
after_blanks zero (byte ∷ rest) =
    if is_blank_byte byte then after_blanks 0 rest else (if byte == 239 && begins_187_191 rest then after_blanks 2 rest else byte ∷ rest)

abbrev pub trim_start : List ℕ → List ℕ
trim_start text = after_blanks 0 text

-- Nothing but blanks. The first list has the bytes that the blank which has begun still lacks.
abbrev pub only_blanks : List ℕ → List ℕ → Bool
only_blanks [] [] = true
only_blanks (want ∷ wanted) [] = false
only_blanks (want ∷ wanted) (byte ∷ rest) = byte == want && only_blanks wanted rest
only_blanks [] (byte ∷ rest) =
    if is_blank_byte byte then only_blanks [] rest else (byte == 239 && only_blanks (187 ∷ 191 ∷ []) rest)

abbrev pub is_blank_text : List ℕ → Bool
is_blank_text text = only_blanks [] text

-- The text without the blanks at its end: its longest rest of nothing but blanks is left out.
abbrev pub trim_end : List ℕ → List ℕ
trim_end [] = []
trim_end (byte ∷ rest) = if is_blank_text (byte ∷ rest) then [] else byte ∷ trim_end rest

-- The text ends with a blank: some rest of it that isn't empty is nothing but blanks.
abbrev pub ends_blank : List ℕ → Bool
ends_blank [] = false
ends_blank (byte ∷ rest) = is_blank_text (byte ∷ rest) || ends_blank rest

-- The text without the blanks at both ends.
abbrev pub trim : List ℕ → List ℕ
trim text = trim_end (trim_start text)

-- How many bytes the blank has with which the text ends: 0 where it ends with none.
unfoldable pub last_blank_len : List ℕ → ℕ
last_blank_len text =
    let n = length text in
    if nat_lt 0 n && is_blank_byte (slice_index text (n - 1)) then 1
    else (if nat_le 3 n && (slice_index text (n - 3) == 239 && (slice_index text (n - 2) == 187 && slice_index text (n - 1) == 191)) then 3 else 0)
