-- Fields: numbers as bytes, the lowest first. A list of bytes is a list of numbers below 256.
use Rattle.std.specs.Prelude.{ℕ, ◌<◌, List, slice_index}
use Rattle.byteorder.specs.Endian.{little_number, little_bytes}

-- The bytes of a field of this width.
unfoldable pub field_bytes : ℕ → ℕ → List ℕ
field_bytes width number = little_bytes width number

-- The number in the first bytes, as many as the field is wide.
unfoldable pub field_number : ℕ → List ℕ → ℕ
field_number width bytes = little_number width bytes

-- Each item is a byte.
abbrev pub AreBytes : List ℕ → Type 0
AreBytes bytes = (i : ℕ) → slice_index bytes i < 256
