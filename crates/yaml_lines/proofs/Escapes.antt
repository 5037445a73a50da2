-- A text of one byte has no `\#`.
use Rattle.std.proofs.Common.{◌≡◌, ℕ, ◌-◌, ◌≤◌, false, List, [], ◌∷◌, ◌++◌, length, take, drop}
use Rattle.std.proofs.Common.{refl, ap, ◌∙◌, arith, eqb}
use Rattle.std.proofs.lemmas.Bool.{and_right, cond-false}
use Rattle.std.proofs.lemmas.List.{take-append-drop, length-drop}
use Rattle.yaml_lines.specs.Reading.{unescape}

unescape-short : (text : List ℕ) → length text ≤ 1 → unescape text ≡ text
unescape-short [] h = refl
unescape-short (byte ∷ []) h = cond-false _ _ _ (and_right (eqb byte 92) false refl)
unescape-short (byte ∷ next ∷ rest) h = absurd (omega arith)

pub unescape_at_end : (text : List ℕ) (i : ℕ) → length text - 1 ≤ i → take i text ++ unescape (drop i text) ≡ text
unescape_at_end text i h =
    ap (λ l. take i text ++ l) (unescape-short (drop i text) (simp length-drop (omega arith))) ∙ take-append-drop i text
