use Rattle.std.proofs.Common.{◌≡◌, ◌<◌, ◌≤◌, ◌+◌, ◌*◌, ◌/◌, ◌%◌, ◌^◌, ℕ, sym, ap, ◌∙◌, subst, arith}
use Rattle.std.proofs.lemmas.Nat.{shl_whole, pow_pos, le-div, div-add-mod'}
use Rattle.std.proofs.Math.Nat.{mul_comm}
use Rattle.packed_lists.specs.Digits.{with_digit}
use Rattle.packed_lists.proofs.DigitLemmas.{pow-mul, digit_counts, with_digit_is, with_digit_below}
use Rattle.packed_lists.proofs.digit.with_digit.Goals as goal

-- What a digit counts for, by a shift.
shifted : (bits place d : ℕ) → bits * place + bits ≤ 64 → d < 2 ^ bits → d * 2 ^ (bits * place) % 2 ^ 64 ≡ d * (2 ^ bits) ^ place
shifted bits place d within small =
    shl_whole d bits (bits * place) 64 small (omega arith) ∙ ap (λ p. d * p) (pow-mul 2 bits place)

whole_words : (bits : ℕ) → 1 ≤ bits → 64 % bits ≡ 0 → (2 ^ bits) ^ (64 / bits) ≡ 2 ^ 64
whole_words bits some whole =
    let times : bits * (64 / bits) ≡ 64 = omega (arith, div-add-mod' 64 bits, mul_comm bits (64 / bits)) in
    sym (pow-mul 2 bits (64 / bits)) ∙ ap (λ n. 2 ^ n) times

pub overflow_sub-result : goal.overflow_sub-result
overflow_sub-result c =
    let d = c.digit-was.result in
    let is = shifted c.args.bits c.args.place d c.requires.within c.digit-was.ensures.small in
    let counts = digit_counts (2 ^ c.args.bits) c.args.place c.args.word in
    let same = ap (λ n. n * (2 ^ c.args.bits) ^ c.args.place) c.digit-was.ensures.value in
    omega (arith, is, counts, same)

pub returns : goal.returns
returns c =
    let d = c.digit-was.result in
    let is = shifted c.args.bits c.args.place d c.requires.within c.digit-was.ensures.small in
    let new = shifted c.args.bits c.args.place c.args.value c.requires.within c.requires.small in
    let same = ap (λ n. n * (2 ^ c.args.bits) ^ c.args.place) c.digit-was.ensures.value in
    let made = with_digit_is (2 ^ c.args.bits) c.args.place c.args.word c.args.value in
    omega (arith, is, new, same, made)

pub overflow_add-result : goal.overflow_add-result
overflow_add-result c =
    let b = c.args.bits in
    let all = whole_words b c.requires.some c.requires.whole in
    let product : (c.args.place + 1) * b ≤ 64 = omega (arith, c.requires.within, mul_comm b c.args.place) in
    let place : c.args.place + 1 ≤ 64 / b = le-div (c.args.place + 1) 64 b c.requires.some product in
    let word : c.args.word < (2 ^ b) ^ (64 / b) = subst (λ (n : ℕ). c.args.word < n) (sym all) (omega (arith, c.ranges.word.fits)) in
    let below : with_digit (2 ^ b) c.args.place c.args.word c.args.value < (2 ^ b) ^ (64 / b) = with_digit_below (2 ^ b) c.args.place (64 / b) c.args.word c.args.value (pow_pos b) c.requires.small (omega arith) word in
    let made : with_digit (2 ^ b) c.args.place c.args.word c.args.value < 2 ^ 64 = subst (λ (n : ℕ). with_digit (2 ^ b) c.args.place c.args.word c.args.value < n) all below in
    let d = c.digit-was.result in
    let is = shifted c.args.bits c.args.place d c.requires.within c.digit-was.ensures.small in
    let new = shifted c.args.bits c.args.place c.args.value c.requires.within c.requires.small in
    let same = ap (λ n. n * (2 ^ c.args.bits) ^ c.args.place) c.digit-was.ensures.value in
    let sum = with_digit_is (2 ^ c.args.bits) c.args.place c.args.word c.args.value in
    omega (arith, is, new, same, sum, made)
