-- The lines that kick, byte by byte.
use Rattle.std.proofs.Common.{◌≡◌, ℕ, ◌+◌, ◌/◌, ◌%◌, ◌<◌, ◌≤◌, List, [], ◌∷◌, ◌++◌, codes, ap, ◌∙◌, map, arith}
use Rattle.std.specs.Fmt.{decimal}
use Rattle.std.specs.Int.Digits.{digits_of}
use Rattle.std.proofs.lemmas.Int.Digits.{digits_of_step}
use Rattle.std.proofs.lemmas.Fmt.{decimal_digit, decimal-digits_of}
use Rattle.host_standing.specs.Typed.{kick_line}

-- The number of a client as it is written.
one_digit : (n : ℕ) → 0 < n → n < 10 → digits_of 10 n ≡ n ∷ []
one_digit n least most =
    let high : n / 10 ≡ 0 = omega arith in
    let low : n % 10 ≡ n = omega arith in
    digits_of_step 10 n (omega arith) least
    ∙ ap (λ h. digits_of 10 h ++ (n % 10 ∷ [])) high ∙ ap (λ r. r ∷ []) low

two_digits : (c : ℕ) → 10 ≤ c → c < 100 → decimal c ≡ (48 + c / 10) ∷ (48 + c % 10) ∷ []
two_digits c least most =
    decimal-digits_of c (omega arith) (omega arith)
    ∙ ap (λ (ds : List ℕ). map (λ d. 48 + d) ds)
    (digits_of_step 10 c (omega arith) (omega arith)
    ∙ ap (λ (ds : List ℕ). ds ++ (c % 10 ∷ [])) (one_digit (c / 10) (omega arith) (omega arith)))

pub kick_one : (c : ℕ) → c < 10 → kick_line c ≡ 107 ∷ 105 ∷ 99 ∷ 107 ∷ 32 ∷ (48 + c) ∷ []
kick_one c low = ap (λ (n : List ℕ). codes "kick " ++ n) (decimal_digit c low)

pub kick_two : (c : ℕ) → 10 ≤ c → c < 100 → kick_line c ≡ 107 ∷ 105 ∷ 99 ∷ 107 ∷ 32 ∷ (48 + c / 10) ∷ (48 + c % 10) ∷ []
kick_two c least most = ap (λ (n : List ℕ). codes "kick " ++ n) (two_digits c least most)
