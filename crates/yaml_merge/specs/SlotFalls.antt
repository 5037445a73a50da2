-- A list has more nodes than each of its lists of children.
use Rattle.std.specs.Prelude.{◌≡◌, ℕ, zero, suc, ◌≤◌, List, [], ◌∷◌}
use Rattle.std.proofs.Common.{arith, inl, inr, ap, refl}
use Rattle.std.proofs.lemmas.Bool.{cases_Bool, cond-true, cond-false}
use Rattle.yaml_merge.specs.declared.growing_list.Slot.{Slot}
use Rattle.yaml_merge.specs.declared.growing_list.GrowingList.TheInside.{Inside}
use Rattle.yaml_merge.specs.declared.growing_list.GrowingList.TheDeep.{deep-GrowingList, deep-Slot}
use Rattle.yaml_merge.specs.declared.growing_list.GrowingList.TheView.{size}
use denote.Param.Weighed.{most}
use Rattle.yaml_lines.specs.Trees.{more}
use Rattle.yaml_merge.specs.Merging.{count}
use Rattle.yaml_merge.specs.Slots.{standing, IsWhole}

most_within : (n : ℕ) (slots : List Slot) → 1 ≤ n → IsWhole slots → count (standing slots) ≤ n →
    most deep-Slot slots ≤ n
most_within n [] l h c = omega arith
most_within n (slot ∷ rest) l h c =
    let all = more slot.key slot.value slot.place slot.children (standing rest) in
    elim (cases_Bool slot.live) [
      | inl y ↦
          let e = ap count (cond-true slot.live all (standing rest) y) in
          omega (arith, e, c, l, most_within n rest l h.2 (omega (arith, e, c)))
      | inr d ↦
          let e = ap count (cond-false slot.live all (standing rest) d) in
          omega (arith, e, c, l, ap size (h.1 d), most_within n rest l h.2 (omega (arith, e, c)))
    ]

at_least_one : (slot : Slot) (rest : List Slot) (n : ℕ) → (n ≡ 0 → (slot ∷ rest) ≡ []) → 1 ≤ n
at_least_one slot rest zero e = let none : (slot ∷ rest) ≡ [] = e refl in cc
at_least_one slot rest (suc n) e = omega arith

most_falls : (slots : List Slot) → IsWhole slots → (count (standing slots) ≡ 0 → slots ≡ []) →
    most deep-Slot slots ≤ count (standing slots)
most_falls [] h l = omega arith
most_falls (slot ∷ rest) h l =
    let n = count (standing (slot ∷ rest)) in
    most_within n (slot ∷ rest) (at_least_one slot rest n l) h (omega arith)

pub falls : (a : Inside) → IsWhole a.slots.items →
    (count (standing a.slots.items) ≡ 0 → a.slots.items ≡ []) →
    deep-GrowingList a ≤ count (standing a.slots.items)
falls a h l = omega (arith, most_falls a.slots.items h l)
