-- When lent orders are the stored ones, and when they are one alone.
use Rattle.std.proofs.Common.{◌≡◌, ◌≢◌, Bool, true, false, ◌&&◌, List, [], ◌∷◌, length, refl}
use Rattle.std.proofs.Common.{◌∙◌, ap, ◌↔◌, arith}
use Rattle.std.specs.Prelude.{slice_get, Some, IsTrue}
use Rattle.game_orders.specs.declared.order.Order.{Order}
use Rattle.game_orders.specs.Order.{same_order, same_orders}

pub same_none : (xs : List Order) (empty : Bool) → (IsTrue empty ↔ (xs ≡ [])) →
    empty ≡ same_orders xs []
same_none [] true is = refl
same_none [] false is = absurd (let yes : IsTrue false = is.1 refl in cc)
same_none (x ∷ xs) true is = absurd (let no : x ∷ xs ≡ [] = is.0 refl in cc)
same_none (x ∷ xs) false is = refl

and_true : (same : Bool) → same ≡ (same && true)
and_true true = refl
and_true false = refl

pub same_one : (xs : List Order) (first kept : Order) → slice_get xs 0 ≡ Some first →
    length xs ≡ 1 → same_order first kept ≡ same_orders xs (kept ∷ [])
same_one [] first kept at one = absurd cc
same_one (x ∷ []) first kept at one =
    let is : first ≡ x = cc in
    ap (λ y. same_order y kept) is ∙ and_true (same_order x kept)
same_one (x ∷ y ∷ rest) first kept at one = absurd (omega (arith, one))

-- The first of one order is all.
pub only_one : (xs : List Order) (first : Order) → slice_get xs 0 ≡ Some first → length xs ≡ 1 →
    first ∷ [] ≡ xs
only_one [] first at one = absurd cc
only_one (x ∷ []) first at one = let is : first ≡ x = cc in ap (λ y. y ∷ []) is
only_one (x ∷ y ∷ rest) first at one = absurd (omega (arith, one))

pub other_one : (xs : List Order) (kept : Order) → length xs ≢ 1 →
    false ≡ same_orders xs (kept ∷ [])
other_one [] kept other = refl
other_one (x ∷ []) kept other = absurd (other refl)
other_one (x ∷ y ∷ rest) kept other = never (same_order x kept) where
  never : (same : Bool) → false ≡ (same && false)
  never true = refl
  never false = refl

pub ruleset same_laws = (same_none, same_one, other_one)
