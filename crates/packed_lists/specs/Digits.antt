-- Numbers as lists of digits, the lowest first, and lists of digits packed into numbers.
use Rattle.std.specs.Prelude.{◌≡◌, ℕ, zero, suc, ◌+◌, ◌-◌, ◌*◌, ◌/◌, ◌%◌, ◌^◌, ◌<◌, ◌==◌, Bool, List, []}
use Rattle.std.specs.Prelude.{◌∷◌, ◌++◌, length, take, drop, replicate}
use Rattle.std.specs.List.{All}

-- The digit of a number at a place, in a base.
unfoldable pub digit : (base place number : ℕ) → ℕ
digit base zero number = number % base
digit base (suc place) number = digit base place (number / base)

-- The number with another digit at a place.
unfoldable pub with_digit : (base place number value : ℕ) → ℕ
with_digit base zero number value = number / base * base + value
with_digit base (suc place) number value =
    with_digit base place (number / base) value * base + number % base

-- So many digits of a number.
unfoldable pub digits : (base count number : ℕ) → List ℕ
digits base zero number = []
digits base (suc count) number = number % base ∷ digits base count (number / base)

-- So many digits of each number, one number after the other.
unfoldable pub all_digits : (base count : ℕ) → List ℕ → List ℕ
all_digits base count [] = []
all_digits base count (word ∷ words) = digits base count word ++ all_digits base count words

-- The list that words hold, of so many digits.
unfoldable pub unpacked : (base count len : ℕ) → List ℕ → List ℕ
unpacked base count len words = take len (all_digits base count words)

-- The words hold a list of so many digits: there are as many words as it takes, each has no more
-- than its digits, and the digits that are left over are 0.
pub record ArePacked (base count len : ℕ) (words : List ℕ) : Type 0 where
  pub count_of : length words ≡ (len + (count - 1)) / count
  pub below : All (λ word. word < base ^ count) words
  pub rest :
      drop len (all_digits base count words) ≡ replicate (count * length words - len) 0

-- A digit as a flag.
abbrev pub is_one : ℕ → Bool
is_one n = n == 1
