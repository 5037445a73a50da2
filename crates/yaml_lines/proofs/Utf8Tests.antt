-- The test for UTF-8, from what a reader of UTF-8 answers; and the test for blanks, from a text
-- trimmed at its start.
use Rattle.std.proofs.Common.{◌≡◌, ℕ, zero, suc, ◌≤◌, true, false, List, [], ◌∷◌, length, inl, inr}
use Rattle.std.proofs.Common.{refl, ap, sym, ◌∙◌, eqb, arith}
use Rattle.std.proofs.lemmas.Bool.{false_from_ne_true, ne_eqb}
use Rattle.std.proofs.lemmas.Str.{is_utf8-from_IsUtf8, IsUtf8-from_is_utf8}
use Rattle.std.specs.Str.{IsUtf8, is_utf8}
use Rattle.yaml_lines.specs.Blanks.{trim_start, is_blank_text}
use Rattle.yaml_lines.proofs.BlankSteps.{front_cases}

pub is_text : (bytes : List ℕ) → IsUtf8 bytes → is_utf8 bytes ≡ true
is_text bytes u = is_utf8-from_IsUtf8 bytes u

pub is_no_text : (bytes : List ℕ) → ¬ (IsUtf8 bytes) → is_utf8 bytes ≡ false
is_no_text bytes u = false_from_ne_true (is_utf8 bytes) (λ e. u (IsUtf8-from_is_utf8 bytes e))

-- Nothing but blanks is left exactly where trimming at the start leaves nothing.
blank_text_within : (n : ℕ) (text : List ℕ) → length text ≤ n → is_blank_text text ≡ eqb (length (trim_start text)) 0
blank_text_within n [] h = refl
blank_text_within zero (byte ∷ rest) h = absurd (omega arith)
blank_text_within (suc n) (byte ∷ rest) h =
    elim (front_cases byte rest) [
      | inl k ↦ k.only ∙ blank_text_within n rest (omega arith) ∙ sym (ap (λ l. eqb (length l) 0) k.trimmed)
      | inr (inl k) ↦ k.only ∙ blank_text_within n k.after (omega (arith, ap length k.next)) ∙ sym (ap (λ l. eqb (length l) 0) k.trimmed)
      | inr (inr k) ↦ k.only ∙ sym (ap (λ l. eqb (length l) 0) k.trimmed ∙ ne_eqb (length (byte ∷ rest)) 0 (λ e. omega arith))
    ]

pub blank_text_is : (text : List ℕ) → is_blank_text text ≡ eqb (length (trim_start text)) 0
blank_text_is text = blank_text_within (length text) text (omega arith)

pub ruleset utf8_tests = (is_text, is_no_text, blank_text_is)
