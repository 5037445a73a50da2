-- Words with single spaces and lines with line feeds, split again.
use Rattle.std.proofs.Common.{◌≡◌, ℕ, ◌+◌, ◌<◌, Bool, true, false, List, [], ◌∷◌, ◌++◌, cond, refl}
use Rattle.std.proofs.Common.{ap, ap₂}
use Rattle.std.proofs.Common.{◌∙◌, arith, eqb}
use Rattle.std.specs.Prelude.{not, nat_lt, ◌==◌, ◌&&◌, ◌||◌, filter}
use Rattle.std.specs.List.{list_all, slice_split, onto_first}
use Rattle.std.proofs.lemmas.Bool.{and_parts, and_from, ltb-true, ne_eqb, not-true}
use Rattle.std.proofs.lemmas.List.Folds.{list_all-append}
use Rattle.base.specs.Lines.{has_bytes, lines_of}
use Rattle.drill_words.specs.Words.{is_blank, words_of}
use Rattle.drill_words.specs.KeptLine.{KeptLine, is_of_line, is_kept, kept_from}
use Rattle.drill_words.specs.Text.{spaced}

abbrev pub kept_line : ℕ → List (List ℕ) → KeptLine
kept_line number words = record { number = number; words = words }

-- The parts of a line with one more byte before it, which is no blank.
pub parts-word :
    (byte : ℕ) (line : List ℕ) → is_blank byte ≡ false →
    slice_split is_blank (byte ∷ line) ≡ onto_first byte (slice_split is_blank line)
parts-word byte line word =
    ap (λ b. cond b ([] ∷ slice_split is_blank line) (onto_first byte (slice_split is_blank line)))
    word

-- A text that doesn't begin with a line feed.
pub lines_of-other :
    (byte : ℕ) (text : List ℕ) → eqb byte 10 ≡ false → lines_of (byte ∷ text)
    ≡ onto_first byte (lines_of text)
lines_of-other byte text other =
    ap (λ b. cond b ([] ∷ lines_of text) (onto_first byte (lines_of text))) other

-- The first line is kept.
pub kept_from-kept :
    (number : ℕ) (text line rest : List ℕ) → lines_of text
    ≡ line ∷ lines_of rest → is_kept (words_of line) ≡ true →
    kept_from number (lines_of text)
    ≡ record { number = number; words = words_of line } ∷ kept_from (number + 1) (lines_of rest)
kept_from-kept number text line rest lines kept =
    ap (kept_from number) lines
    ∙ ap (λ b. cond b (kept_line number (words_of line) ∷ kept_from (number + 1) (lines_of rest))
    (kept_from (number + 1) (lines_of rest))) kept

-- A word of bytes above the space.
abbrev pub is_word : List ℕ → Bool
is_word word = has_bytes word && list_all (nat_lt 32) word

pub is_word-from : (word : List ℕ) → has_bytes word ≡ true → list_all (nat_lt 32) word
    ≡ true → is_word word ≡ true
is_word-from word some above = and_from (has_bytes word) (list_all (nat_lt 32) word) some above

-- What follows from a test for each element follows for a list.
all_follow : (p q : ℕ → Bool) → ((b : ℕ) → p b ≡ true → q b ≡ true) → (bs : List ℕ) → list_all p bs
    ≡ true → list_all q bs ≡ true
all_follow p q follows [] all = refl
all_follow p q follows (b ∷ bs) all =
    let parts = and_parts (p b) (list_all p bs) all in
    and_from (q b) (list_all q bs) (follows b parts.0) (all_follow p q follows bs parts.1)

pub not_blank : (b : ℕ) → nat_lt 32 b ≡ true → is_blank b ≡ false
not_blank b above =
    let high : 32 < b = ltb-true 32 b above in
    ap₂ (λ s t. s || t)
    (ap₂ (λ s t. s || t) (ne_eqb b 32 (λ is. omega (arith, high, is)))
    (ne_eqb b 9 (λ is. omega (arith, high, is))))
    (ne_eqb b 13 (λ is. omega (arith, high, is)))

no_feed : (b : ℕ) → nat_lt 32 b ≡ true → is_of_line b ≡ true
no_feed b above =
    let high : 32 < b = ltb-true 32 b above in
    ap not (ne_eqb b 10 (λ is. omega (arith, high, is)))

-- The parts of a line that is one word, and of one that begins with a word and a space.
split_last : (word : List ℕ) → list_all (nat_lt 32) word ≡ true → slice_split is_blank word
    ≡ word ∷ []
split_last [] above = refl
split_last (b ∷ word) above =
    let parts = and_parts (nat_lt 32 b) (list_all (nat_lt 32) word) above in
    parts-word b word (not_blank b parts.0) ∙ ap (onto_first b) (split_last word parts.1)

split_more :
    (word rest : List ℕ) → list_all (nat_lt 32) word ≡ true →
    slice_split is_blank (word ++ 32 ∷ rest) ≡ word ∷ slice_split is_blank rest
split_more [] rest above = refl
split_more (b ∷ word) rest above =
    let parts = and_parts (nat_lt 32 b) (list_all (nat_lt 32) word) above in
    parts-word b (word ++ 32 ∷ rest) (not_blank b parts.0)
    ∙ ap (onto_first b) (split_more word rest parts.1)

split_spaced :
    (word : List ℕ) (words : List (List ℕ)) → list_all (nat_lt 32) word
    ≡ true → list_all is_word words ≡ true →
    slice_split is_blank (spaced (word ∷ words)) ≡ word ∷ words
split_spaced word [] above all = split_last word above
split_spaced word (next ∷ words) above all =
    let parts = and_parts (is_word next) (list_all is_word words) all in
    let high : list_all (nat_lt 32) next
    ≡ true = (and_parts (has_bytes next) (list_all (nat_lt 32) next) parts.0).1 in
    split_more word (spaced (next ∷ words)) above
    ∙ ap (λ ws. word ∷ ws) (split_spaced next words high parts.1)

filter_words : (words : List (List ℕ)) → list_all is_word words ≡ true → filter has_bytes words
    ≡ words
filter_words [] all = refl
filter_words (word ∷ words) all =
    let parts = and_parts (is_word word) (list_all is_word words) all in
    let some : has_bytes word
    ≡ true = (and_parts (has_bytes word) (list_all (nat_lt 32) word) parts.0).0 in
    ap (λ b. cond b (word ∷ filter has_bytes words) (filter has_bytes words)) some
    ∙ ap (λ ws. word ∷ ws) (filter_words words parts.1)

-- Spaced words are the words of their line.
pub words_of-spaced : (words : List (List ℕ)) → list_all is_word words
    ≡ true → words_of (spaced words) ≡ words
words_of-spaced [] all = refl
words_of-spaced (word ∷ words) all =
    let parts = and_parts (is_word word) (list_all is_word words) all in
    let high : list_all (nat_lt 32) word
    ≡ true = (and_parts (has_bytes word) (list_all (nat_lt 32) word) parts.0).1 in
    ap (filter has_bytes) (split_spaced word words high parts.1) ∙ filter_words (word ∷ words) all

-- They have no line feed.
spaced_of_line : (words : List (List ℕ)) → list_all is_word words
    ≡ true → list_all is_of_line (spaced words) ≡ true
spaced_of_line [] all = refl
spaced_of_line (word ∷ []) all =
    let parts = and_parts (is_word word) true all in
    all_follow (nat_lt 32) is_of_line no_feed word
    (and_parts (has_bytes word) (list_all (nat_lt 32) word) parts.0).1
spaced_of_line (word ∷ (next ∷ words)) all =
    let parts = and_parts (is_word word) (list_all is_word (next ∷ words)) all in
    let high : list_all (nat_lt 32) word
    ≡ true = (and_parts (has_bytes word) (list_all (nat_lt 32) word) parts.0).1 in
    list_all-append is_of_line word (32 ∷ spaced (next ∷ words))
    ∙ and_from (list_all is_of_line word) (list_all is_of_line (spaced (next ∷ words)))
    (all_follow (nat_lt 32) is_of_line no_feed word high) (spaced_of_line (next ∷ words) parts.1)

-- A line and its line feed.
lines_of-line :
    (line rest : List ℕ) → list_all is_of_line line ≡ true →
    lines_of (line ++ 10 ∷ rest) ≡ line ∷ lines_of rest
lines_of-line [] rest all = refl
lines_of-line (b ∷ line) rest all =
    let parts = and_parts (is_of_line b) (list_all is_of_line line) all in
    lines_of-other b (line ++ 10 ∷ rest) (not-true (b == 10) parts.0)
    ∙ ap (onto_first b) (lines_of-line line rest parts.1)

-- A line of spaced words is kept as these words.
pub kept_spaced :
    (number : ℕ) (words : List (List ℕ)) (rest : List ℕ) → list_all is_word words
    ≡ true → is_kept words ≡ true →
    kept_from number (lines_of (spaced words ++ 10 ∷ rest))
    ≡ kept_line number words ∷ kept_from (number + 1) (lines_of rest)
kept_spaced number words rest all kept =
    let reads : words_of (spaced words) ≡ words = words_of-spaced words all in
    kept_from-kept number (spaced words ++ 10 ∷ rest) (spaced words) rest
    (lines_of-line (spaced words) rest (spaced_of_line words all)) (ap is_kept reads ∙ kept)
    ∙ ap (λ ws. kept_line number ws ∷ kept_from (number + 1) (lines_of rest)) reads
