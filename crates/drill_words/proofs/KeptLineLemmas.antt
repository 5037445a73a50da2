-- The lines of a text, and the kept ones, found from the first.
use Rattle.std.proofs.Common.{◌≡◌, ℕ, suc, ◌+◌, ◌<◌, List, [], ◌∷◌, length, take, drop, Bool, true}
use Rattle.std.proofs.Common.{false, refl, ap, sym, ◌∙◌, arith, cond, eqb, get_or, subst}
use Rattle.std.specs.Prelude.{not, ◌==◌}
use Rattle.std.specs.List.{prefix_len, onto_first}
use Rattle.std.proofs.lemmas.List.{nil_from_length, drop_more}
use Rattle.std.proofs.lemmas.List.Sums.{prefix_len_stops}
use Rattle.base.specs.Lines.{lines_of}
use Rattle.drill_words.proofs.WordsLemmas.{prefix_len-yes, prefix_len-no, words_of-first, words_of-none}
use Rattle.drill_words.specs.Words.{is_blank, is_of_word, words_of}
use Rattle.drill_words.specs.KeptLine.{KeptLine, is_of_line, is_comment, is_kept, kept_from}
use Rattle.drill_words.proofs.SpacedLemmas.{lines_of-other, kept_from-kept}

-- A text that begins with a line feed, and one that doesn't.
lines_of-feed : (byte : ℕ) (text : List ℕ) → eqb byte 10 ≡ true → lines_of (byte ∷ text) ≡ [] ∷ lines_of text
lines_of-feed byte text feed = ap (λ b. cond b ([] ∷ lines_of text) (onto_first byte (lines_of text))) feed

length-feed : (byte : ℕ) (text : List ℕ) → eqb byte 10 ≡ true → prefix_len is_of_line (byte ∷ text) ≡ 0
length-feed byte text feed = prefix_len-no is_of_line byte text (ap not feed)

length-other : (byte : ℕ) (text : List ℕ) → eqb byte 10 ≡ false → prefix_len is_of_line (byte ∷ text) ≡ suc (prefix_len is_of_line text)
length-other byte text other = prefix_len-yes is_of_line byte text (ap not other)

-- The first line, and the lines after its line feed.
abbrev First : List ℕ → Type 0
First text = lines_of text ≡ take (prefix_len is_of_line text) text ∷ lines_of (drop 1 (drop (prefix_len is_of_line text) text))

first-other : (byte other : ℕ) (text : List ℕ) → eqb byte 10 ≡ false → First (other ∷ text) → First (byte ∷ other ∷ text)
first-other byte other text differs rest =
    lines_of-other byte (other ∷ text) differs ∙ ap (onto_first byte) rest
    ∙ ap (λ n. take n (byte ∷ other ∷ text) ∷ lines_of (drop 1 (drop n (byte ∷ other ∷ text)))) (sym (length-other byte (other ∷ text) differs))

first-alone : (byte : ℕ) → eqb byte 10 ≡ false → First (byte ∷ [])
first-alone byte differs =
    lines_of-other byte [] differs
    ∙ ap (λ n. take n (byte ∷ []) ∷ lines_of (drop 1 (drop n (byte ∷ [])))) (sym (length-other byte [] differs))

first-case : (byte : ℕ) (text : List ℕ) (b : Bool) → eqb byte 10 ≡ b → (b ≡ false → First (byte ∷ text)) → First (byte ∷ text)
first-case byte text true feed rest =
    lines_of-feed byte text feed
    ∙ ap (λ n. take n (byte ∷ text) ∷ lines_of (drop 1 (drop n (byte ∷ text)))) (sym (length-feed byte text feed))
first-case byte text false other rest = rest refl

first_line : (byte : ℕ) (text : List ℕ) → First (byte ∷ text)
first_line byte [] =
    first-case byte [] (eqb byte 10) refl (λ other. first-alone byte other)
first_line byte (other ∷ text) =
    first-case byte (other ∷ text) (eqb byte 10) refl (λ differs. first-other byte other text differs (first_line other text))

first_of : (text : List ℕ) → 0 < length text → First text
first_of [] some = absurd (omega (arith, some))
first_of (byte ∷ text) some = first_line byte text

pub lines_of-first :
    (text rest : List ℕ) (byte n : ℕ) → n ≡ prefix_len is_of_line text → 0 < length text → drop n text ≡ byte ∷ rest →
    lines_of text ≡ take n text ∷ lines_of rest
lines_of-first text rest byte n is_n some from_end =
    first_of text some ∙ ap (λ k. take k text ∷ lines_of (drop 1 (drop k text))) (sym is_n)
    ∙ ap (λ end. take n text ∷ lines_of (drop 1 end)) from_end

pub lines_of-last :
    (text : List ℕ) (n : ℕ) → n ≡ prefix_len is_of_line text → 0 < length text → length (drop n text) ≡ 0 →
    lines_of text ≡ take n text ∷ lines_of (drop n text)
lines_of-last text n is_n some at_end =
    let from_end : drop n text ≡ [] = nil_from_length (drop n text) at_end in
    first_of text some ∙ ap (λ k. take k text ∷ lines_of (drop 1 (drop k text))) (sym is_n)
    ∙ ap (λ end. take n text ∷ lines_of (drop 1 end)) from_end ∙ ap (λ end. take n text ∷ lines_of end) (sym from_end)

pub ruleset line_steps = (lines_of-first, lines_of-last)

abbrev Kept : ℕ → List ℕ → KeptLine
Kept number line = record { number = number; words = words_of line }

-- The first line is passed over.
pub kept_from-passed :
    (number : ℕ) (text line rest : List ℕ) → lines_of text ≡ line ∷ lines_of rest → is_kept (words_of line) ≡ false →
    kept_from number (lines_of text) ≡ kept_from (number + 1) (lines_of rest)
kept_from-passed number text line rest lines passed =
    ap (kept_from number) lines
    ∙ ap (λ b. cond b (Kept number line ∷ kept_from (number + 1) (lines_of rest)) (kept_from (number + 1) (lines_of rest))) passed

-- Whether a line is kept is seen at its first byte that isn't a blank.
pub is_kept-first :
    (line : List ℕ) (blanks : ℕ) → blanks ≡ prefix_len is_blank line → blanks < length line →
    is_kept (words_of line) ≡ not (get_or line blanks 0 == 35)
is_kept-first line blanks is_blanks some =
    let first : ℕ = get_or line blanks 0 in
    let rest : List ℕ = drop (blanks + 1) line in
    let starts : drop blanks line ≡ first ∷ rest = drop_more line blanks 0 some in
    let word : is_blank first ≡ false =
    subst (λ (k : ℕ). is_blank (get_or line k 0) ≡ false) (sym is_blanks) (prefix_len_stops is_blank line 0 (omega arith)) in
    let long : prefix_len is_of_word (drop blanks line) ≡ suc (prefix_len is_of_word rest) =
    ap (prefix_len is_of_word) starts ∙ prefix_len-yes is_of_word first rest (ap not word) in
    ap is_kept (words_of-first line blanks (suc (prefix_len is_of_word rest)) is_blanks some (sym long))
    ∙ ap (λ l. not (is_comment (take (suc (prefix_len is_of_word rest)) l))) starts

pub is_kept-none : (line : List ℕ) (blanks : ℕ) → blanks ≡ prefix_len is_blank line → blanks ≡ length line → is_kept (words_of line) ≡ false
is_kept-none line blanks is_blanks all = ap is_kept (words_of-none line blanks is_blanks all)

pub ruleset comment_steps = (is_kept-first, is_kept-none)

pub ruleset kept_steps = (kept_from-kept, kept_from-passed)
