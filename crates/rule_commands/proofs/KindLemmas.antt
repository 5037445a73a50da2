-- A kind that is found by its name is valid, as all kinds are.
use Rattle.std.proofs.Common.{◌≡◌, ◌⊎◌, Bool, true, false, cond, List, [], ◌∷◌, length, Bor, Option, None, Some, IfSome, inl, inr, subst, arith}
use Rattle.std.proofs.lemmas.List.Elements.{All-tail}
use Rattle.std.specs.Prelude.{find}
use Rattle.std.specs.List.{All}
use Rattle.std.specs.Option.{option_copied}
use Rattle.rule_traits.specs.declared.kind.Kind.{Kind}
use Rattle.rule_traits.specs.declared.trait_fields.Mobile.{Mobile}
use Rattle.rule_traits.specs.ValidRules.{AreValidRules, IsValidKind, IsValidMobile}
use Rattle.grid_routes.specs.EntryCosts.{IsCheap}

found_first : {A : Type 0} (b : Bool) (y x : A) (rest : Option A) → cond b (Some y) rest ≡ Some x → (y ≡ x) ⊎ (rest ≡ Some x)
found_first true y x rest is = inl cc
found_first false y x rest is = inr is

found_all : {A : Type 0} (P : A → Type 0) (test : A → Bool) (xs : List A) (x : A) → All P xs → find test xs ≡ Some x → P x
found_all P test [] x all is = absurd cc
found_all P test (y ∷ ys) x all is =
    elim (found_first (test y) y x (find test ys) is) [
      | inl same ↦ subst P same (all 0 y (omega arith))
      | inr later ↦ found_all P test ys x (All-tail P y ys all) later
    ]

pub kind_valid :
    (kinds : List Kind) (test : Kind → Bool) (found : Option (Bor Kind)) → AreValidRules kinds → option_copied found ≡ find test kinds →
    IfSome found (λ kind. IfSome kind.now.mobile IsValidMobile)
kind_valid kinds test None valid is = tt
kind_valid kinds test (Some kind) valid is = (found_all (IsValidKind (length kinds)) test kinds kind.now valid.kinds cc).mobile

pub cheap_costs : (mobile : Mobile) → IsValidMobile mobile → IsCheap mobile.costs
cheap_costs mobile valid = record {
  clear = valid.clear.1;
  road = valid.road.1;
  rough = valid.rough.1;
  water = valid.water.1;
}
