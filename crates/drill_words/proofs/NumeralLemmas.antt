-- The first word of a line, where it writes a number.
use Rattle.std.proofs.Common.{◌≡◌, ℕ, zero, suc, ◌<◌, ◌≤◌, true, false, List, [], ◌∷◌, length}
use Rattle.std.proofs.Common.{take, drop, refl, ap, sym, ◌∙◌, arith, cond}
use Rattle.std.specs.Prelude.{not, nat_lt, nat_le, ◌&&◌, Some, None}
use Rattle.std.specs.Char.{is_ascii_digit}
use Rattle.std.specs.List.{list_all, prefix_len}
use Rattle.std.proofs.lemmas.Bool.{and_parts, and_from, leb-true, le-leb, lt-ltb}
use Rattle.base.specs.Numbers.{number_of, value_of}
use Rattle.base.specs.declared.numbers.TheConstants.{MAX_DIGITS}
use Rattle.drill_words.specs.Words.{is_blank, is_of_word, words_of, ends_word}
use Rattle.drill_words.proofs.SpacedLemmas.{not_blank}
use Rattle.drill_words.proofs.WordsLemmas.{prefix_len-yes, prefix_len-no, words_of-first}

digit_not_blank : (byte : ℕ) → is_ascii_digit byte ≡ true → is_blank byte ≡ false
digit_not_blank byte digit =
    let low : 48 ≤ byte = leb-true 48 byte (and_parts (nat_le 48 byte) (nat_le byte 57) digit).0 in
    not_blank byte (lt-ltb 32 byte (omega (arith, low)))

-- Digits before the end of a word are the word.
digits_are_word :
    (line : List ℕ) (n : ℕ) → n ≤ length line → list_all is_ascii_digit (take n line) ≡ true →
    ends_word (drop n line) ≡ true → n ≡ prefix_len is_of_word line
digits_are_word [] zero room digits ends = refl
digits_are_word [] (suc n) room digits ends = absurd (omega (arith, room))
digits_are_word (byte ∷ line) zero room digits ends =
    sym (prefix_len-no is_of_word byte line (ap not ends))
digits_are_word (byte ∷ line) (suc n) room digits ends =
    let parts = and_parts (is_ascii_digit byte) (list_all is_ascii_digit (take n line)) digits in
    ap suc (digits_are_word line n (omega (arith, room)) parts.1 ends)
    ∙ sym (prefix_len-yes is_of_word byte line (ap not (digit_not_blank byte parts.0)))

-- The first word of the line, and the words after it.
pub words_of-digits :
    (line : List ℕ) (blanks count : ℕ) → blanks ≡ prefix_len is_blank line → blanks < length line →
    count ≤ length (drop blanks line) → list_all is_ascii_digit (take count (drop blanks line)) ≡ true →
    ends_word (drop count (drop blanks line)) ≡ true →
    words_of line ≡ take count (drop blanks line) ∷ words_of (drop count (drop blanks line))
words_of-digits line blanks count is_blanks some room digits ends =
    words_of-first line blanks count is_blanks some (digits_are_word (drop blanks line) count room digits ends)

-- What they write.
pub number_of-digits :
    (word : List ℕ) (value : ℕ) → 0 < length word → length word ≤ MAX_DIGITS → list_all is_ascii_digit word ≡ true →
    value ≡ value_of word → Some value ≡ number_of word
unfolding number_of
number_of-digits word value some few digits is =
    ap Some is
    ∙ sym (ap (λ b. cond b (Some (value_of word)) None)
    (and_from (nat_lt 0 (length word) && nat_le (length word) MAX_DIGITS) (list_all is_ascii_digit word)
    (and_from (nat_lt 0 (length word)) (nat_le (length word) MAX_DIGITS) (lt-ltb 0 (length word) some) (le-leb (length word) MAX_DIGITS few))
    digits))

pub ruleset numeral_steps = (words_of-digits, number_of-digits)
