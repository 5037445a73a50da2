-- FNV-1a of 64 bits.
use Rattle.std.specs.Prelude.{ℕ, ◌*◌, ◌%◌, ◌^◌, List, fold, bit_xor}

-- The number before the first byte.
abbrev pub fnv_start : ℕ
fnv_start = 14695981039346656037

-- Each byte is joined by exclusive or, and then the number is multiplied by the prime.
unfoldable pub fnv_step : ℕ → ℕ → ℕ
fnv_step hash byte = bit_xor hash byte * 1099511628211 % 2 ^ 64

-- The number that these bytes make of one that stands for the bytes before them.
abbrev pub fnv_from : ℕ → List ℕ → ℕ
fnv_from hash bytes = fold fnv_step hash bytes

-- The number of a list of bytes.
abbrev pub fnv_of : List ℕ → ℕ
fnv_of bytes = fnv_from fnv_start bytes
