-- The parts of a step.
use Rattle.std.proofs.Common.{◌≡◌, ◌≢◌, ◌==◌, ℕ, ◌<◌, ◌≤◌, true, false, leb, List, [], ◌∷◌, drop}
use Rattle.std.proofs.Common.{Option, None, Some, Ok, Err, MatchOption, Bor, refl, sym, ap, inl}
use Rattle.std.proofs.Common.{inr, eqb-true}
use Rattle.std.proofs.lemmas.Bool.{cases_Bool, cond-true, cond-false, lt-ltb, le-ltb, leb-true}
use Rattle.std.proofs.lemmas.Bool.{leb-false}
use Rattle.yaml_lines.specs.declared.place.Place.{Place}
use Rattle.yaml_lines.specs.Trees.{Trees}
use Rattle.yaml_merge.specs.declared.fault.MergeFault.TheVariants.{TooLarge, TooDeep}
use Rattle.yaml_merge.specs.Merging.{count, levels, merged_into}
use Rattle.yaml_merge.specs.Resolving.{removes, within, inherited}

pub within_small : (limit : ℕ) (place : Place) (list : Trees) → count list ≤ limit → within limit place list ≡ Ok list
unfolding within
within_small limit place list h = cond-false _ _ _ (le-ltb limit (count list) h)

pub within_large : (limit : ℕ) (place : Place) (list : Trees) → limit < count list → within limit place list ≡ Err (TooLarge place)
unfolding within
within_large limit place list h = cond-true _ _ _ (lt-ltb limit (count list) h)

pub inherited_flat : (room : ℕ) (place : Place) (list parent : Trees) → leb (levels parent) room ≡ true → inherited room place list parent ≡ Ok (merged_into parent list)
unfolding inherited
inherited_flat room place list parent h = cond-false _ _ _ (le-ltb room (levels parent) (leb-true _ _ h))

pub inherited_deep : (room : ℕ) (place : Place) (list parent : Trees) → leb (levels parent) room ≡ false → inherited room place list parent ≡ Err (TooDeep place)
unfolding inherited
inherited_deep room place list parent h = cond-true _ _ _ (lt-ltb room (levels parent) (leb-false _ _ h))

pub ruleset within_steps = (within_small, within_large, inherited_flat, inherited_deep)

-- What stands after the sign of a removal.
pub removal_done : (key : List ℕ) (r : Option (Bor (List ℕ))) → MatchOption r ((rest : List ℕ) → key ≢ 45 ∷ rest) (λ removed. key ≡ 45 ∷ removed.now) →
    MatchOption r (removes key ≡ false) (λ removed. (removes key ≡ true) × (removed.now ≡ drop 1 key))
removal_done [] None h = refl
removal_done (byte ∷ rest) None h = elim (cases_Bool (byte == 45)) [
  | inl y ↦ absurd (h rest (ap (λ b. b ∷ rest) (eqb-true byte 45 y)))
  | inr n ↦ n
]
removal_done key (Some removed) h = (ap removes h, sym (ap (drop 1) h))
