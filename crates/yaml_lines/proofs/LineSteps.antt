-- The first line of a file.
use Rattle.std.proofs.Common.{◌≡◌, ℕ, ◌+◌, ◌<◌, ◌≤◌, ◌≢◌, List, [], ◌∷◌, ◌++◌, length, take, drop}
use Rattle.std.proofs.Common.{get_or, refl, sym, ap, ◌∙◌, arith, eqb}
use Rattle.std.proofs.lemmas.Bool.{cond-true, cond-false, eq-eqb, ne_eqb}
use Rattle.std.proofs.lemmas.List.{drop_more, drop_all, take_more, take_all, take_rest}
use Rattle.std.specs.List.{onto_first}
use Rattle.base.specs.Lines.{lines_of}

-- Lines of which the first begins with these bytes.
abbrev pub led_by : List ℕ → List (List ℕ) → List (List ℕ)
led_by [] lines = lines
led_by (byte ∷ rest) lines = onto_first byte (led_by rest lines)

led_by-push : (front : List ℕ) (byte : ℕ) (lines : List (List ℕ)) → led_by (front ++ byte ∷ []) lines ≡ led_by front (onto_first byte lines)
led_by-push [] byte lines = refl
led_by-push (first ∷ front) byte lines = ap (onto_first first) (led_by-push front byte lines)

led_by-whole : (front : List ℕ) (lines : List (List ℕ)) → led_by front ([] ∷ lines) ≡ front ∷ lines
led_by-whole [] lines = refl
led_by-whole (first ∷ front) lines = ap (onto_first first) (led_by-whole front lines)

led_by-last : (first : ℕ) (front : List ℕ) → led_by (first ∷ front) [] ≡ (first ∷ front) ∷ []
led_by-last first [] = refl
led_by-last first (next ∷ front) = ap (onto_first first) (led_by-last next front)

-- One byte more that is no LF.
pub led_by_more : (bytes : List ℕ) (at : ℕ) → at < length bytes → get_or bytes at 0 ≢ 10 →
    lines_of bytes ≡ led_by (take at bytes) (lines_of (drop at bytes)) → lines_of bytes ≡ led_by (take (at + 1) bytes) (lines_of (drop (at + 1) bytes))
led_by_more bytes at h other e =
    e
    ∙ ap (λ l. led_by (take at bytes) (lines_of l)) (drop_more bytes at 0 h)
    ∙ ap (λ l. led_by (take at bytes) l) (cond-false (eqb (get_or bytes at 0) 10) _ _ (ne_eqb _ 10 other))
    ∙ sym (led_by-push (take at bytes) (get_or bytes at 0) (lines_of (drop (at + 1) bytes)))
    ∙ ap (λ l. led_by l (lines_of (drop (at + 1) bytes))) (sym (take_more bytes at 0 h))

-- A LF ends the line.
pub led_by_end : (bytes : List ℕ) (at : ℕ) → at < length bytes → get_or bytes at 0 ≡ 10 →
    lines_of bytes ≡ led_by (take at bytes) (lines_of (drop at bytes)) → lines_of bytes ≡ take at bytes ∷ lines_of (drop (at + 1) bytes)
led_by_end bytes at h lf e =
    e
    ∙ ap (λ l. led_by (take at bytes) (lines_of l)) (drop_more bytes at 0 h)
    ∙ ap (λ l. led_by (take at bytes) l) (cond-true (eqb (get_or bytes at 0) 10) _ _ (eq-eqb _ 10 lf))
    ∙ led_by-whole (take at bytes) (lines_of (drop (at + 1) bytes))

led_by_some : (bytes : List ℕ) → 0 < length bytes → led_by bytes [] ≡ bytes ∷ []
led_by_some [] h = absurd (omega arith)
led_by_some (first ∷ front) h = led_by-last first front

-- The file ends with the line.
pub led_by_rest : (bytes : List ℕ) (at : ℕ) → length bytes ≤ at → 0 < length bytes →
    lines_of bytes ≡ led_by (take at bytes) (lines_of (drop at bytes)) → lines_of bytes ≡ bytes ∷ lines_of []
led_by_rest bytes at h some e =
    e
    ∙ ap (λ l. led_by (take at bytes) (lines_of l)) (drop_all at bytes h)
    ∙ ap (λ l. led_by l []) (take_all at bytes h)
    ∙ led_by_some bytes some

pub ruleset line_steps = (led_by_more, led_by_end, led_by_rest, take_rest)
