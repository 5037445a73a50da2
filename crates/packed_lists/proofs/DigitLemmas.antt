-- Digits of numbers, read and set.
use Rattle.std.proofs.Common.{◌≡◌, ℕ, zero, suc, ◌+◌, ◌-◌, ◌*◌, ◌/◌, ◌%◌, ◌^◌, ◌<◌, ◌≤◌, length, set}
use Rattle.std.proofs.Common.{Some, refl, sym, ap, ◌∙◌, arith}
use Rattle.std.specs.Prelude.{slice_get}
use Rattle.std.proofs.Math.Nat.{pow-suc, mul-suc, div-div-eq-div-mul, mul_comm, mul-zero, pow-zero, div-one, mod-lt, div-mul-le_self, mul-le-mul_left, mod-le, mul-one}
use Rattle.std.proofs.lemmas.Nat.{pow-add, div-mul-add, mod-mul-add, mul-add-lt, div_below, div-add-mod'}
use Rattle.packed_lists.specs.Digits.{digit, with_digit, digits}

-- Powers of powers.
pub pow-mul : (n a b : ℕ) → n ^ (a * b) ≡ (n ^ a) ^ b
pow-mul n a zero = ap (λ e. n ^ e) (mul-zero a) ∙ pow-zero n ∙ sym (pow-zero (n ^ a))
pow-mul n a (suc b) =
    ap (λ e. n ^ e) (mul-suc a b) ∙ pow-add n (a * b) a ∙ ap (λ p. p * n ^ a) (pow-mul n a b)
    ∙ sym (pow-suc (n ^ a) b)

-- A digit by a quotient.
pub digit_by_quotient :
    (base place number : ℕ) → digit base place number ≡ number / base ^ place % base
unfolding digit
digit_by_quotient base zero number = ap (λ n. n % base) (sym (div-one number) ∙ ap (λ p. number / p) (sym (pow-zero base)))
digit_by_quotient base (suc place) number =
    digit_by_quotient base place (number / base)
    ∙ ap (λ n. n % base) (div-div-eq-div-mul number base (base ^ place) ∙ ap (λ p. number / p) (mul_comm base (base ^ place) ∙ sym (pow-suc base place)))

-- A digit counts for no more than the number.
pub digit_counts : (base place number : ℕ) → digit base place number * base ^ place ≤ number
unfolding digit
digit_counts base zero number =
    omega (arith, mod-le number base, mul-one (number % base), ap (λ p. number % base * p) (pow-zero base))
digit_counts base (suc place) number =
    let lower = digit_counts base place (number / base) in
    let d : ℕ = digit base place (number / base) in
    let scaled : base * (d * base ^ place) ≤ base * (number / base) = mul-le-mul_left base lower in
    let power : base ^ suc place ≡ base ^ place * base = pow-suc base place in
    let product : d * base ^ suc place ≡ d * (base ^ place * base) = ap (λ p. d * p) power in
    omega (arith, scaled, product, div-mul-le_self number base)

-- The number with another digit, by a difference and a sum.
pub with_digit_counts :
    (base place number value : ℕ) →
    with_digit base place number value + digit base place number * base ^ place
    ≡ number + value * base ^ place
unfolding digit with_digit
with_digit_counts base zero number value =
    omega (arith, div-add-mod' number base, mul-one (number % base), mul-one value, ap (λ p. number % base * p) (pow-zero base), ap (λ p. value * p) (pow-zero base))
with_digit_counts base (suc place) number value =
    let d : ℕ = digit base place (number / base) in
    let other : ℕ = with_digit base place (number / base) value in
    let scaled = ap (λ n. n * base) (with_digit_counts base place (number / base) value) in
    let power : base ^ suc place ≡ base ^ place * base = pow-suc base place in
    let old : d * base ^ suc place ≡ d * (base ^ place * base) = ap (λ p. d * p) power in
    let new : value * base ^ suc place ≡ value * (base ^ place * base) = ap (λ p. value * p) power in
    omega (arith, scaled, old, new, div-add-mod' number base)

pub with_digit_is :
    (base place number value : ℕ) →
    with_digit base place number value
    ≡ number - digit base place number * base ^ place + value * base ^ place
with_digit_is base place number value =
    omega (arith, with_digit_counts base place number value, digit_counts base place number)

-- The number with another digit has no more digits than it had.
pub with_digit_below :
    (base place count number value : ℕ) → 0 < base → value < base → place < count →
    number < base ^ count → with_digit base place number value < base ^ count
unfolding with_digit
with_digit_below base place zero number value some small within below = absurd (omega arith)
with_digit_below base zero (suc count) number value some small within below =
    let power : base ^ suc count ≡ base ^ count * base = pow-suc base count in
    let high : number / base < base ^ count = div_below number base (base ^ count) some (omega (arith, power)) in
    omega (arith, power, mul-add-lt (number / base) base value (base ^ count) high small, mul_comm base (base ^ count))
with_digit_below base (suc place) (suc count) number value some small within below =
    let power : base ^ suc count ≡ base ^ count * base = pow-suc base count in
    let high : number / base < base ^ count = div_below number base (base ^ count) some (omega (arith, power)) in
    let higher = with_digit_below base place count (number / base) value some small (omega arith) high in
    omega (arith, power, mul-add-lt (with_digit base place (number / base) value) base (number % base) (base ^ count) higher (mod-lt number some), mul_comm base (base ^ count))

pub length-digits : (base count number : ℕ) → length (digits base count number) ≡ count
unfolding digits
length-digits base zero number = refl
length-digits base (suc count) number = ap suc (length-digits base count (number / base))

-- The digits of a number, one by one.
pub digit_at :
    (base count place number : ℕ) → place < count →
    slice_get (digits base count number) place ≡ Some (digit base place number)
unfolding digits digit
digit_at base zero place number within = absurd (omega arith)
digit_at base (suc count) zero number within = refl
digit_at base (suc count) (suc place) number within =
    digit_at base count place (number / base) (omega arith)

-- Of the number with another digit, that digit is the other one, and the rest stay.
pub digits_set :
    (base count place number value : ℕ) → value < base → place < count →
    digits base count (with_digit base place number value) ≡ set (digits base count number) place value
unfolding digits with_digit
digits_set base zero place number value small within = absurd (omega arith)
digits_set base (suc count) zero number value small within =
    let low : (number / base * base + value) % base ≡ value = mod-mul-add (number / base) base value small in
    let high : (number / base * base + value) / base ≡ number / base = div-mul-add (number / base) base value small in
    cc (low, ap (digits base count) high)
digits_set base (suc count) (suc place) number value small within =
    let other : ℕ = with_digit base place (number / base) value in
    let some : 0 < base = omega arith in
    let low : (other * base + number % base) % base ≡ number % base = mod-mul-add other base (number % base) (mod-lt number some) in
    let high : (other * base + number % base) / base ≡ other = div-mul-add other base (number % base) (mod-lt number some) in
    let lower = digits_set base count place (number / base) value small (omega arith) in
    cc (low, ap (digits base count) high, lower)

-- Numbers with no more digits are told by them.
pub same_number :
    (base count a b : ℕ) → 0 < base → a < base ^ count → b < base ^ count →
    digits base count a ≡ digits base count b → a ≡ b
unfolding digits
same_number base zero a b some small less same = omega (arith, pow-zero base)
same_number base (suc count) a b some small less same =
    let power : base ^ suc count ≡ base ^ count * base = pow-suc base count in
    let low : a % base ≡ b % base = cc in
    let rest : digits base count (a / base) ≡ digits base count (b / base) = cc in
    let high : a / base ≡ b / base = same_number base count (a / base) (b / base) some (div_below a base (base ^ count) some (omega (arith, power))) (div_below b base (base ^ count) some (omega (arith, power))) rest in
    sym (div-add-mod' a base) ∙ ap (λ q. q * base + a % base) high
    ∙ ap (λ r. b / base * base + r) low ∙ div-add-mod' b base
