-- The words that write numbers and hashes, read back.
use Rattle.std.proofs.Common.{◌≡◌, ℕ, zero, suc, ◌+◌, ◌-◌, ◌*◌, ◌/◌, ◌%◌, ◌^◌, ◌<◌, ◌≤◌, lit<}
use Rattle.std.proofs.Common.{Bool, true, false, List, [], ◌∷◌, length, cond, Ok, Err}
use Rattle.std.proofs.Common.{refl, ap, ap₂, ◌∙◌, arith}
use Rattle.std.specs.Prelude.{nat_lt, nat_le, ◌==◌, ◌&&◌, Some, None, Result, codes}
use Rattle.std.specs.Char.{is_ascii_digit}
use Rattle.std.specs.List.{list_all}
use Rattle.std.specs.Str.{bytes_eq}
use Rattle.std.specs.Fmt.{decimal}
use Rattle.std.proofs.Math.Nat.{pow-suc}
use Rattle.std.proofs.lemmas.Bool.{and_parts, and_from, and_left, leb-true, le-leb, lt-ltb, eq-eqb}
use Rattle.std.proofs.lemmas.Bool.{ne_eqb}
use Rattle.std.proofs.lemmas.Bool.{eqb-true, agree_below, agree_below_at}
use Rattle.std.proofs.lemmas.List.{length_push}
use Rattle.std.proofs.lemmas.List.Folds.{list_all-append}
use Rattle.std.proofs.lemmas.List.Sums.{fold_push}
use Rattle.std.proofs.lemmas.Fmt.{decimal_by_steps, length-decimal-le, decimal_nonempty}
use Rattle.base.specs.Steps.{◌>>=◌}
use Rattle.base.specs.Numbers.{number_of, is_number, value_of}
use Rattle.base.specs.declared.numbers.TheConstants.{MAX_DIGITS}
use Rattle.drill_words.specs.declared.word_fault.WordFault.{WordFault}
use Rattle.drill_words.specs.declared.word_fault.WordFault.TheVariants.{BadNumber, NoSuchClient}
use Rattle.drill_words.specs.declared.hash.TheConstants.{HASH_DIGITS}
use Rattle.drill_words.specs.Hash.{is_hex_digit, hex_digit_value, hex_value_of, hash_of_word}
use Rattle.drill_words.specs.Hash.{hex_digit, hex_from, hash_digits}
use Rattle.drill_words.specs.Read.{Read, in_range, number_at, below, client_of, client_at, known}
use Rattle.drill_words.specs.Read.{hash_at}

-- What passes at each digit passes at each number.
pub decimal_all :
    (p : ℕ → Bool) → agree_below (λ d. p (48 + d)) (λ d. true) 10 ≡ true →
    (n : ℕ) → n < 2 ^ 64 → list_all p (decimal n) ≡ true
decimal_all p all n small =
    let digit : (d : ℕ) → d < 10 → p (48 + d) ≡ true =
    λ d low. agree_below_at (λ d. p (48 + d)) (λ d. true) 10 d all low in
    decimal_by_steps (λ n ds. list_all p ds ≡ true)
    (λ n low. and_from (p (48 + n)) true (digit n low) refl)
    (λ n ds high rest.
    list_all-append p ds ((48 + n % 10) ∷ [])
    ∙ and_from (list_all p ds) (list_all p ((48 + n % 10) ∷ [])) rest
    (and_from (p (48 + n % 10)) true (digit (n % 10) (omega arith)) refl))
    n small

decimal_value : (n : ℕ) → n < 2 ^ 64 → value_of (decimal n) ≡ n
decimal_value n small =
    decimal_by_steps (λ n ds. value_of ds ≡ n)
    (λ n low. let one : 0 * 10 + (48 + n - 48) ≡ n = omega arith in one)
    (λ n ds high rest.
    let whole : n / 10 * 10 + (48 + n % 10 - 48) ≡ n = omega arith in
    fold_push (λ value byte. value * 10 + (byte - 48)) 0 ds (48 + n % 10)
    ∙ ap (λ v. v * 10 + (48 + n % 10 - 48)) rest ∙ whole)
    n small

all_three : (a b c : Bool) → a ≡ true → b ≡ true → c ≡ true → (a && b && c) ≡ true
all_three a b c ea eb ec = and_from (a && b) c (and_from a b ea eb) ec

pub number_of-decimal : (n : ℕ) → n < 10 ^ 10 → number_of (decimal n) ≡ Some n
unfolding number_of
number_of-decimal n ten =
    let small : n < 2 ^ 64 = omega (arith, ten) in
    let some : 0 < 10 = lit< tt in
    let is : is_number (decimal n) ≡ true =
    all_three (nat_lt 0 (length (decimal n))) (nat_le (length (decimal n)) MAX_DIGITS)
    (list_all is_ascii_digit (decimal n)) (lt-ltb 0 (length (decimal n)) (decimal_nonempty n small))
    (le-leb (length (decimal n)) MAX_DIGITS (length-decimal-le 10 n some ten small))
    (decimal_all is_ascii_digit refl n small) in
    ap₂ (λ b v. cond b (Some v) None) is (decimal_value n small)

-- A word that is read, and the words after it.
abbrev pub with_rest : {A : Type 0} → List (List ℕ) → Result A WordFault → Read A
with_rest rest read = read >>= λ value. Ok (value, rest)

pub number_at-decimal :
    (least most n : ℕ) (rest : List (List ℕ)) → least ≤ n → n ≤ most → n < 10 ^ 10 →
    number_at least most (decimal n ∷ rest) ≡ Ok (n, rest)
unfolding number_at
number_at-decimal least most n rest low high ten =
    ap (λ o. with_rest rest (in_range least most o)) (number_of-decimal n ten)
    ∙ ap (λ b. with_rest rest (cond b (Ok n) (Err BadNumber)))
    (and_from (nat_le least n) (nat_le n most) (le-leb least n low) (le-leb n most high))

pub client_of-decimal :
    (clients n : ℕ) → n < clients → n < 10 ^ 10 → client_of clients (decimal n) ≡ Ok n
client_of-decimal clients n low ten =
    ap (below clients) (number_of-decimal n ten)
    ∙ ap (λ b. cond b (Ok n) (Err NoSuchClient)) (lt-ltb n clients low)

pub client_at-decimal :
    (clients n : ℕ) (rest : List (List ℕ)) → n < clients → n < 10 ^ 10 →
    client_at clients (decimal n ∷ rest) ≡ Ok (n, rest)
unfolding client_at
client_at-decimal clients n rest low ten = ap (with_rest rest) (client_of-decimal clients n low ten)

-- Digits don't write the word `server`.
digits_not_server : (word : List ℕ) → list_all is_ascii_digit word
    ≡ true → bytes_eq word (codes "server") ≡ false
digits_not_server [] digits = refl
digits_not_server (byte ∷ word) digits =
    let digit : is_ascii_digit byte
    ≡ true = (and_parts (is_ascii_digit byte) (list_all is_ascii_digit word) digits).0 in
    let low : byte ≤ 57 = leb-true byte 57 (and_parts (nat_le 48 byte) (nat_le byte 57) digit).1 in
    and_left (byte == 115) (bytes_eq word (codes "erver"))
    (ne_eqb byte 115 (λ is. omega (arith, low, is)))

pub decimal_not_server : (n : ℕ) → n < 2 ^ 64 → bytes_eq (decimal n) (codes "server") ≡ false
decimal_not_server n small = digits_not_server (decimal n) (decimal_all is_ascii_digit refl n small)

-- What passes at each hexadecimal digit passes at each word of them.
pub hex_all :
    (p : ℕ → Bool) → agree_below (λ d. p (hex_digit d)) (λ d. true) 16 ≡ true →
    (count number : ℕ) → list_all p (hex_from count number) ≡ true
hex_all p all zero number = refl
hex_all p all (suc count) number =
    let digit : p (hex_digit (number % 16)) ≡ true =
    agree_below_at (λ d. p (hex_digit d)) (λ d. true) 16 (number % 16) all (omega arith) in
    list_all-append p (hex_from count (number / 16)) (hex_digit (number % 16) ∷ [])
    ∙ and_from (list_all p (hex_from count (number / 16)))
    (list_all p (hex_digit (number % 16) ∷ []))
    (hex_all p all count (number / 16)) (and_from (p (hex_digit (number % 16))) true digit refl)

pub hex_length : (count number : ℕ) → length (hex_from count number) ≡ count
hex_length zero number = refl
hex_length (suc count) number =
    omega (
      arith,
      length_push (hex_from count (number / 16)) (hex_digit (number % 16)),
      hex_length
          count (number / 16),
    )

hex_digit_back : (d : ℕ) → d < 16 → hex_digit_value (hex_digit d) ≡ d
hex_digit_back d low =
    eqb-true (hex_digit_value (hex_digit d)) d
    (agree_below_at (λ d. hex_digit_value (hex_digit d) == d) (λ d. true) 16 d refl low)

hex_value : (count number : ℕ) → number < 16 ^ count → hex_value_of (hex_from count number) ≡ number
hex_value zero number fits = omega (arith, fits)
hex_value (suc count) number fits =
    let whole : number / 16 * 16 + number % 16 ≡ number = omega arith in
    fold_push (λ value byte. value * 16 + hex_digit_value byte) 0 (hex_from count (number / 16))
    (hex_digit (number % 16))
    ∙ ap₂ (λ v d. v * 16 + d)
    (hex_value count (number / 16) (omega (arith, fits, pow-suc 16 count)))
    (hex_digit_back (number % 16) (omega arith))
    ∙ whole

hash_of_word-digits : (hash : ℕ) → hash < 2 ^ 64 → hash_of_word (hash_digits hash) ≡ Some hash
unfolding hash_digits
hash_of_word-digits hash fits =
    ap₂ (λ b v. cond b (Some v) None)
    (and_from (length (hex_from HASH_DIGITS hash) == HASH_DIGITS)
    (list_all is_hex_digit (hex_from HASH_DIGITS hash))
    (eq-eqb (length (hex_from HASH_DIGITS hash)) HASH_DIGITS (hex_length HASH_DIGITS hash))
    (hex_all is_hex_digit refl HASH_DIGITS hash))
    (hex_value HASH_DIGITS hash fits)

pub hash_at-digits : (hash : ℕ) (rest : List (List ℕ)) → hash < 2 ^ 64 →
    hash_at (hash_digits hash ∷ rest) ≡ Ok (hash, rest)
unfolding hash_at
hash_at-digits hash rest fits = ap (λ o. with_rest rest (known o)) (hash_of_word-digits hash fits)
