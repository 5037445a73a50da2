-- The hashes that words write: exactly 16 lower-case hexadecimal digits.
use Rattle.std.specs.Prelude.{ℕ, zero, suc, ◌+◌, ◌-◌, ◌*◌, ◌/◌, ◌%◌, ◌==◌, nat_le, nat_lt, Bool}
use Rattle.std.specs.Prelude.{◌&&◌, ◌||◌, [], ◌∷◌, ◌++◌}
use Rattle.std.specs.Prelude.{if◌then◌else◌, List, length, Option, Some, None, fold}
use Rattle.std.specs.Char.{is_ascii_digit}
use Rattle.std.specs.List.{list_all}
use Rattle.drill_words.specs.declared.hash.TheConstants.{HASH_DIGITS}

-- A lower-case hexadecimal digit.
abbrev pub is_hex_digit : ℕ → Bool
is_hex_digit byte = is_ascii_digit byte || (nat_le 97 byte && nat_le byte 102)

-- The value of a digit, 0 to 15.
abbrev pub hex_digit_value : ℕ → ℕ
hex_digit_value byte = if is_ascii_digit byte then byte - 48 else byte - 97 + 10

abbrev pub is_hash : List ℕ → Bool
is_hash word = (length word == HASH_DIGITS) && list_all is_hex_digit word

-- The number that digits write in base 16.
abbrev pub hex_value_of : List ℕ → ℕ
hex_value_of = fold (λ value byte. value * 16 + hex_digit_value byte) 0

-- The hash that a word writes, if it writes one.
abbrev pub hash_of_word : List ℕ → Option ℕ
hash_of_word word = if is_hash word then Some (hex_value_of word) else None

-- A digit 0 to 15.
abbrev pub hex_digit : ℕ → ℕ
hex_digit digit = if nat_lt digit 10 then 48 + digit else 87 + digit

-- The last so many hexadecimal digits of a number, the highest first.
abbrev pub hex_from : ℕ → ℕ → List ℕ
hex_from zero number = []
hex_from (suc count) number = hex_from count (number / 16) ++ hex_digit (number % 16) ∷ []

-- The word that writes a hash.
unfoldable pub hash_digits : ℕ → List ℕ
hash_digits hash = hex_from HASH_DIGITS hash
