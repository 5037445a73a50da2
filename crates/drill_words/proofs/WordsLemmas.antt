-- The words of a line, found from the left.
use Rattle.std.proofs.Common.{◌≡◌, ℕ, suc, ◌+◌, ◌<◌, ◌≤◌, List, [], ◌∷◌, length, take, drop, get_or}
use Rattle.std.proofs.Common.{Bool, true, false, refl, ap, sym, ◌∙◌, arith, cond, subst}
use Rattle.std.specs.Prelude.{not, filter, ◌==◌}
use Rattle.std.specs.Str.{bytes_eq}
use Rattle.std.specs.List.{prefix_len, slice_split, onto_first}
use Rattle.std.proofs.lemmas.Bool.{eqb-true}
use Rattle.std.proofs.lemmas.List.{drop_more, drop_all, take_all}
use Rattle.std.proofs.lemmas.List.Sums.{prefix_len_stops}
use Rattle.std.proofs.lemmas.Slice.Eq.{bytes_eq-Decides}
use Rattle.base.specs.Lines.{has_bytes}
use Rattle.drill_words.specs.Words.{is_blank, is_of_word, words_of}
use Rattle.drill_words.specs.Read.{none_left}
use Rattle.drill_words.proofs.SpacedLemmas.{parts-word}

-- One more element of the prefix passes the test.
pub prefix_len-yes : (p : ℕ → Bool) (byte : ℕ) (line : List ℕ) → p byte ≡ true → prefix_len p (byte ∷ line) ≡ suc (prefix_len p line)
prefix_len-yes p byte line yes_byte = ap (λ b. cond b (1 + prefix_len p line) 0) yes_byte ∙ omega arith

pub prefix_len-no : (p : ℕ → Bool) (byte : ℕ) (line : List ℕ) → p byte ≡ false → prefix_len p (byte ∷ line) ≡ 0
prefix_len-no p byte line no_byte = ap (λ b. cond b (1 + prefix_len p line) 0) no_byte

-- The parts of a line with one more byte before it.
parts-blank : (byte : ℕ) (line : List ℕ) → is_blank byte ≡ true → slice_split is_blank (byte ∷ line) ≡ [] ∷ slice_split is_blank line
parts-blank byte line blank = ap (λ b. cond b ([] ∷ slice_split is_blank line) (onto_first byte (slice_split is_blank line))) blank

-- Leading blanks change no word.
drop_blanks-case :
    (byte : ℕ) (line : List ℕ) (b : Bool) → is_blank byte ≡ b → words_of (drop (prefix_len is_blank line) line) ≡ words_of line →
    words_of (drop (prefix_len is_blank (byte ∷ line)) (byte ∷ line)) ≡ words_of (byte ∷ line)
drop_blanks-case byte line true blank rest =
    ap (λ n. words_of (drop n (byte ∷ line))) (prefix_len-yes is_blank byte line blank)
    ∙ rest ∙ sym (ap (filter has_bytes) (parts-blank byte line blank))
drop_blanks-case byte line false word rest =
    ap (λ n. words_of (drop n (byte ∷ line))) (prefix_len-no is_blank byte line word)

words_of-drop_blanks : (line : List ℕ) → words_of (drop (prefix_len is_blank line) line) ≡ words_of line
words_of-drop_blanks [] = refl
words_of-drop_blanks (byte ∷ line) = drop_blanks-case byte line (is_blank byte) refl (words_of-drop_blanks line)

-- The first part ends at the first blank, and the words after it are those of the other parts.
record FirstPart (line : List ℕ) : Type 0 where
  others : List (List ℕ)
  parts : slice_split is_blank line ≡ take (prefix_len is_of_word line) line ∷ others
  words : filter has_bytes others ≡ words_of (drop (prefix_len is_of_word line) line)

first_part-case : (byte : ℕ) (line : List ℕ) (b : Bool) → is_blank byte ≡ b → FirstPart line → FirstPart (byte ∷ line)
first_part-case byte line true blank rest =
    let none : prefix_len is_of_word (byte ∷ line) ≡ 0 = prefix_len-no is_of_word byte line (ap not blank) in
    record {
      others = slice_split is_blank line;
      parts = parts-blank byte line blank ∙ ap (λ n. take n (byte ∷ line) ∷ slice_split is_blank line) (sym none);
      words = sym (ap (λ n. words_of (drop n (byte ∷ line))) none ∙ ap (filter has_bytes) (parts-blank byte line blank));
    }
first_part-case byte line false word rest =
    let more : prefix_len is_of_word (byte ∷ line) ≡ suc (prefix_len is_of_word line) = prefix_len-yes is_of_word byte line (ap not word) in
    record {
      others = rest.others;
      parts = parts-word byte line word ∙ ap (onto_first byte) rest.parts ∙ ap (λ n. take n (byte ∷ line) ∷ rest.others) (sym more);
      words = rest.words ∙ ap (λ n. words_of (drop n (byte ∷ line))) (sym more);
    }

first_part : (line : List ℕ) → FirstPart line
first_part [] = record { others = []; parts = refl; words = refl }
first_part (byte ∷ line) = first_part-case byte line (is_blank byte) refl (first_part line)

-- A line that begins with a word.
words_of-word :
    (byte : ℕ) (line : List ℕ) → is_blank byte ≡ false →
    let n = prefix_len is_of_word (byte ∷ line) in
    words_of (byte ∷ line) ≡ take n (byte ∷ line) ∷ words_of (drop n (byte ∷ line))
words_of-word byte line word =
    let part : FirstPart (byte ∷ line) = first_part (byte ∷ line) in
    let more : prefix_len is_of_word (byte ∷ line) ≡ suc (prefix_len is_of_word line) = prefix_len-yes is_of_word byte line (ap not word) in
    ap (filter has_bytes) (part.parts ∙ ap (λ n. take n (byte ∷ line) ∷ part.others) more)
    ∙ ap (λ words. (byte ∷ take (prefix_len is_of_word line) line) ∷ words) part.words
    ∙ ap (λ n. take n (byte ∷ line) ∷ words_of (drop (prefix_len is_of_word (byte ∷ line)) (byte ∷ line))) (sym more)

-- A line of more than blanks begins with a word after its blanks.
pub words_of-first :
    (line : List ℕ) (blanks n : ℕ) → blanks ≡ prefix_len is_blank line → blanks < length line → n ≡ prefix_len is_of_word (drop blanks line) →
    words_of line ≡ take n (drop blanks line) ∷ words_of (drop n (drop blanks line))
words_of-first line blanks n is_blanks room is_n =
    let starts : drop blanks line ≡ get_or line blanks 0 ∷ drop (blanks + 1) line = drop_more line blanks 0 room in
    let word : is_blank (get_or line blanks 0) ≡ false =
    subst (λ (k : ℕ). is_blank (get_or line k 0) ≡ false) (sym is_blanks) (prefix_len_stops is_blank line 0 (omega arith)) in
    sym (ap (λ k. words_of (drop k line)) is_blanks ∙ words_of-drop_blanks line)
    ∙ ap words_of starts
    ∙ words_of-word (get_or line blanks 0) (drop (blanks + 1) line) word
    ∙ ap (λ rest. take (prefix_len is_of_word rest) rest ∷ words_of (drop (prefix_len is_of_word rest) rest)) (sym starts)
    ∙ ap (λ k. take k (drop blanks line) ∷ words_of (drop k (drop blanks line))) (sym is_n)

-- A line of blanks alone has no words.
pub words_of-none : (line : List ℕ) (blanks : ℕ) → blanks ≡ prefix_len is_blank line → blanks ≡ length line → words_of line ≡ []
words_of-none line blanks is_blanks all =
    sym (words_of-drop_blanks line) ∙ ap words_of (drop_all (prefix_len is_blank line) line (omega arith))

-- A line of blanks alone, and no other, has no words.
blank_line :
    (line : List ℕ) (blanks : ℕ) (b : Bool) → blanks ≡ prefix_len is_blank line → blanks ≤ length line →
    (blanks == length line) ≡ b → b ≡ none_left (words_of line)
blank_line line blanks true is_blanks limit all =
    sym (ap none_left (words_of-none line blanks is_blanks (eqb-true blanks (length line) all)))
blank_line line blanks false is_blanks limit more =
    let some : blanks < length line = grind (arith, more, limit) in
    sym (ap none_left (words_of-first line blanks (prefix_len is_of_word (drop blanks line)) is_blanks some refl))

pub none_left-blanks :
    (line : List ℕ) (blanks : ℕ) → blanks ≡ prefix_len is_blank line → blanks ≤ length line →
    (blanks == length line) ≡ none_left (words_of line)
none_left-blanks line blanks is_blanks limit = blank_line line blanks (blanks == length line) is_blanks limit refl

-- Texts of one length that agree so far as they go are the same.
pub same_text :
    (word text : List ℕ) (n : ℕ) → take n word ≡ take n text → length word ≤ n → length text ≤ n → true ≡ bytes_eq word text
same_text word text n same long_word long_text =
    sym ((bytes_eq-Decides word text).1 (sym (take_all n word long_word) ∙ same ∙ take_all n text long_text))

pub ruleset blank_steps = none_left-blanks

pub ruleset word_steps = (words_of-first, words_of-none)
