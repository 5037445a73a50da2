-- Numbers in decimal digits.
use Rattle.std.specs.Prelude.{ℕ, ◌+◌, ◌-◌, ◌*◌, Bool, ◌&&◌, nat_lt, nat_le, List, length, fold}
use Rattle.std.specs.Prelude.{Option, Some, None, if◌then◌else◌}
use Rattle.std.specs.Char.{is_ascii_digit}
use Rattle.std.specs.List.{list_all}
use Rattle.base.specs.declared.numbers.TheConstants.{MAX_DIGITS}

-- One to ten decimal digits.
abbrev pub is_number : List ℕ → Bool
is_number word =
    nat_lt 0 (length word) && nat_le (length word) MAX_DIGITS && list_all is_ascii_digit word

-- What digits write in base ten.
abbrev pub value_of : List ℕ → ℕ
value_of = fold (λ value byte. value * 10 + (byte - 48)) 0

-- The number that a word writes, if it writes one.
unfoldable pub number_of : List ℕ → Option ℕ
number_of word = if is_number word then Some (value_of word) else None
