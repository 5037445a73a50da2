-- One line of the whole file.
use Rattle.std.proofs.Common.{◌≡◌, ℕ, ◌+◌, ◌≤◌, List, ◌∷◌, ◌++◌, Option, None, sym, ap, ◌∙◌, ltb}
use Rattle.std.proofs.Common.{append_assoc, inl, inr}
use Rattle.std.proofs.lemmas.Bool.{cases_Bool, cond-true, ltb-false}
use Rattle.yaml_lines.specs.declared.place.Place.{Place}
use Rattle.yaml_lines.specs.declared.fault.LineFault.{LineFault}
use Rattle.yaml_lines.specs.declared.TheConstants.{MAX_LINES}
use Rattle.yaml_lines.specs.Reading.{words_of}
use Rattle.base.specs.Lines.{lines_of}
use Rattle.yaml_lines.specs.Kept.{Kept, kept_of, kept_from, line_fault, allowed_after, or_later}
use Rattle.yaml_lines.specs.Kept.{fault_from}

-- A line without a fault is one of the lines that a file may have.
pub line_within : (place : Place) (allowed : ℕ) (text : List ℕ) → line_fault place allowed text ≡ None → place.line ≤ MAX_LINES
unfolding line_fault
line_within place allowed text h =
    elim (cases_Bool (ltb MAX_LINES place.line)) [
      | inl k ↦ let e = sym h ∙ cond-true _ _ _ k in cc
      | inr k ↦ ltb-false MAX_LINES place.line k
    ]

pub kept_step : (file line : ℕ) (bytes text rest : List ℕ) (before nodes : List Kept) (all : List Kept) →
    lines_of bytes ≡ text ∷ lines_of rest → nodes ≡ before ++ kept_of (record { file = file; line = line }) (words_of text) →
    before ++ kept_from file line (lines_of bytes) ≡ all → nodes ++ kept_from file (line + 1) (lines_of rest) ≡ all
kept_step file line bytes text rest before nodes all e n h =
    ap (λ l. l ++ kept_from file (line + 1) (lines_of rest)) n
    ∙ append_assoc before (kept_of (record { file = file; line = line }) (words_of text)) (kept_from file (line + 1) (lines_of rest))
    ∙ ap (λ l. before ++ kept_from file line l) (sym e)
    ∙ h

pub fault_step : (file line allowed next : ℕ) (bytes text rest : List ℕ) (first : Option LineFault) →
    lines_of bytes ≡ text ∷ lines_of rest → line_fault (record { file = file; line = line }) allowed text ≡ None →
    next ≡ allowed_after allowed (words_of text) →
    fault_from file line allowed (lines_of bytes) ≡ first → fault_from file (line + 1) next (lines_of rest) ≡ first
fault_step file line allowed next bytes text rest first e sound n h =
    ap (λ a. fault_from file (line + 1) a (lines_of rest)) n
    ∙ sym (ap (λ f. or_later f (fault_from file (line + 1) (allowed_after allowed (words_of text)) (lines_of rest))) sound)
    ∙ ap (λ l. fault_from file line allowed l) (sym e)
    ∙ h
