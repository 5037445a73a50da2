-- The two ways in which a lock is given back, as a call makes them.
use Rattle.std.proofs.Common.{◌≡◌, ℕ, ◌<◌, List, [], ◌∷◌, length, refl, sym, ◌∙◌, subst, Some, None, false}
use mathlib.Core.Option.{none}
use Rattle.atomic_table.specs.Table.{Me, step, rest, Allows}
use Rattle.frame_core.specs.Column.{Column}
use Rattle.frame_table.specs.declared.planned.Planned.{Planned}
use Rattle.frame_table.specs.declared.view.View.{View}
use Rattle.frame_table.specs.Part.{part_of}
use Rattle.frame_table.specs.Word.{word_of}
use Rattle.frame_table.specs.Rule.{IsKept}
use Rattle.frame_table.specs.Steps.{Slot, Publishes, GivesBack, MayPublish}
use Rattle.frame_table.proofs.KeptSteps.{publishes, gives_back}

module _ (plan : List Planned) (slots id : ℕ) (v : View) (was : List (ℕ × Slot)) (some_share : 0 < v.share) (c : ℕ) (here : c < length plan) (columns : List Column) (me : Me Slot View) (word : ℕ) where
  -- the slot that was taken last has the column again
  filled : me ≡ (v, (c, Some columns) ∷ rest was) → was ≡ (c, None) ∷ [] → (L : Column) → columns ≡ L ∷ [] → me ≡ (v, (c, Some (L ∷ [])) ∷ [])
  filled me_is slots_are L is = me_is ∙ (λ i. (v, (c, Some (is i)) ∷ rest (slots_are i)))

  pub stores_published : me ≡ (v, (c, Some columns) ∷ rest was) → was ≡ (c, None) ∷ [] → (may : MayPublish (part_of c v) columns) → word ≡ word_of may.after false →
      Allows (IsKept plan) slots id me c (λ _. word) (λ _. Publishes (step slots c word 0 none) me word)
  stores_published me_is slots_are may word_is =
      subst (λ (y : Me Slot View × ℕ). Allows (IsKept plan) slots id y.0 c (λ _. y.1) (λ _. Publishes (step slots c y.1 0 none) y.0 y.1))
      (λ i. (sym (filled me_is slots_are may.after may.is) i, sym word_is i))
      (publishes plan slots id v [] some_share c here may.before may.after may.held may.becomes)

  pub stores_given : me ≡ (v, (c, Some columns) ∷ rest was) → was ≡ (c, None) ∷ [] → (K : Column) → (part_of c v).held ≡ K ∷ [] → columns ≡ K ∷ [] → word ≡ word_of K false →
      Allows (IsKept plan) slots id me c (λ _. word) (λ _. GivesBack (step slots c word 0 none) me word)
  stores_given me_is slots_are K held is word_is =
      subst (λ (y : Me Slot View × ℕ). Allows (IsKept plan) slots id y.0 c (λ _. y.1) (λ _. GivesBack (step slots c y.1 0 none) y.0 y.1))
      (λ i. (sym (filled me_is slots_are K is) i, sym word_is i))
      (gives_back plan slots id v [] some_share c here K K held refl)
