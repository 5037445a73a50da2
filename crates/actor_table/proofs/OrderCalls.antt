-- The search for an id in an order of places.
use Rattle.std.proofs.Common.{◌≡◌, ℕ, ◌+◌, ◌-◌, ◌<◌, ◌≤◌, ◌≢◌, List, length, get_or, slice_range, Some, Result, Ok, Err, Less, Equal, Greater, HoldsAt, inl, inr, sym, subst, ap, ◌∙◌, arith}
use Rattle.std.specs.List.Sorted.{IsSearchInRange, IsBinarySearchResult, IsNonDecreasingBy, IsPartitionPoint}
use Rattle.std.specs.Option.{option_map}
use Rattle.std.specs.Ordering.{nat_cmp, ordering_index}
use Rattle.std.proofs.lemmas.Cmp.{ranked}
use Rattle.std.proofs.lemmas.Bool.{cases_lt}
use Rattle.std.proofs.lemmas.Bool.Decides.{nat_tests}
use Rattle.std.proofs.lemmas.List.Edits.{length-between, get_or-between}
use Rattle.std.proofs.lemmas.Option.{slice_get-map, slice_get-get_or, same_Some}
use Rattle.actor_table.specs.Order.{IsRising, IsIndexOf, IsNowhere, IsOnlyBetween}
use Rattle.actor_table.specs.declared.place.Place.{Place}
use Rattle.actor_table.proofs.Rising.{rises_pair}

-- what stands at an index, whatever the default
same_at : (order : List Place) (i : ℕ) (d e : Place) → i < length order → get_or order i d ≡ get_or order i e
same_at order i d e within = same_Some _ _ (sym (slice_get-get_or order i d within) ∙ slice_get-get_or order i e within)

ids_rise : (order : List Place) (i j : ℕ) (d : Place) → IsRising order → i ≤ j → j < length order → (get_or order i d).id ≤ (get_or order j d).id
ids_rise order i j d rises le within =
    let pair = rises_pair (λ (p : Place). p.id) 0 order i j d rises in
    let same : i ≡ j → (get_or order i d).id ≡ (get_or order j d).id = λ e. ap (λ k. (get_or order k d).id) e in
    grind (arith, pair, same)

pub index_here : (order : List Place) (id at : ℕ) (d : Place) → at < length order → (get_or order at d).id ≡ id → IsIndexOf order id at
index_here order id at d within named =
    slice_get-map (λ (p : Place). p.id) order at ∙ ap (option_map (λ (p : Place). p.id)) (slice_get-get_or order at d within) ∙ ap Some named

-- where a greater id stands, the id stands before it
pub before_greater : (order : List Place) (id at : ℕ) (d : Place) → IsRising order → at < length order → id < (get_or order at d).id → IsOnlyBetween order id 0 at
before_greater order id at d rises within greater k e below named =
    elim (cases_lt k at) [
      | inl lt ↦ (omega arith, lt)
      | inr le ↦ absurd (from_it le)
    ]
  where
    from_it : at ≤ k → ⊥
    from_it le =
        let up = ids_rise order at k e rises le below in
        let here = ap (λ (p : Place). p.id) (same_at order at d e within) in
        omega (arith, up, here, greater, named)

pub before_not_lesser : (order : List Place) (id at : ℕ) (d : Place) → IsRising order → at < length order → id ≤ (get_or order at d).id → (get_or order at d).id ≢ id → IsOnlyBetween order id 0 at
before_not_lesser order id at d rises within least other =
    let greater : id < (get_or order at d).id = grind (arith, nat_tests, least, other) in
    before_greater order id at d rises within greater

-- where a lesser id stands, the id stands after it
pub after_lesser : (order : List Place) (id at : ℕ) (d : Place) → IsRising order → at < length order → (get_or order at d).id < id → IsOnlyBetween order id (at + 1) (length order)
after_lesser order id at d rises within lesser k e below named =
    elim (cases_lt at k) [
      | inl lt ↦ (omega arith, below)
      | inr le ↦ absurd (up_to_it le)
    ]
  where
    up_to_it : k ≤ at → ⊥
    up_to_it le =
        let up = ids_rise order k at e rises le within in
        let here = ap (λ (p : Place). p.id) (same_at order at d e within) in
        omega (arith, up, here, lesser, named)

-- where an id that is no greater stands some steps back, the id stands there or after it
pub from_not_greater : (order : List Place) (id to step : ℕ) (d : Place) → IsRising order → to ≤ length order → 1 ≤ step → IsOnlyBetween order id 0 to → (get_or order (to - step) d).id ≤ id → IsOnlyBetween order id (to - step) to
from_not_greater order id to step d rises within some before lesser k e below named =
    let up = before k e below named in
    elim (cases_lt k (to - step)) [
      | inl lt ↦ absurd (earlier lt)
      | inr le ↦ (le, up.1)
    ]
  where
    earlier : k < to - step → ⊥
    earlier lt =
        let pair = rises_pair (λ (p : Place). p.id) 0 order k (to - step) e rises lt (omega arith) in
        let here = ap (λ (p : Place). p.id) (same_at order (to - step) d e (omega arith)) in
        omega (arith, pair, here, lesser, named)

-- and where there is no such step
pub from_front : (order : List Place) (id to step : ℕ) → IsOnlyBetween order id 0 to → to ≤ step → IsOnlyBetween order id (to - step) to
from_front order id to step before le k e below named = (omega arith, (before k e below named).1)

-- the comparisons with an id rise from one index up to another
comparisons_rise : (order : List Place) (id from to : ℕ) → IsRising order → to ≤ length order → IsNonDecreasingBy (λ (p : Place). ordering_index (nat_cmp p.id id)) (slice_range order from to)
comparisons_rise order id from to rises within i j d le below =
    let count = length-between order from to within in
    let first = ap (λ (p : Place). p.id) (get_or-between order from to i d (omega arith)) in
    let second = ap (λ (p : Place). p.id) (get_or-between order from to j d (omega arith)) in
    let up = ids_rise order (from + i) (from + j) d rises (omega arith) (omega arith) in
    ordered _ _ id (omega (arith, first, second, up))
  where
    ordered : (a b id : ℕ) → a ≤ b → ordering_index (nat_cmp a id) ≤ ordering_index (nat_cmp b id)
    ordered a b id le = grind (arith, nat_tests)

-- halving finds the id
found_between : (order : List Place) (id from to at : ℕ) → to ≤ length order → at < length (slice_range order from to) → HoldsAt (λ (p : Place). nat_cmp p.id id ≡ Equal) (slice_range order from to) at → IsIndexOf order id (from + at)
found_between order id from to at within in_range equal =
    let count = length-between order from to within in
    let read = ap (λ (p : Place). p.id) (get_or-between order from to at d (omega (arith, count, in_range))) in
    index_here order id (from + at) d (omega (arith, count, in_range)) (sym read ∙ ranked _ id _ (sym (equal d)))
  where
    d : Place
    d = record { id = 0; key = 0 }

-- halving finds that no place has the id
absent_between : (order : List Place) (id from to at : ℕ) → IsRising order → to ≤ length order → IsOnlyBetween order id from to → IsPartitionPoint (λ (p : Place). nat_cmp p.id id ≡ Less) (λ (p : Place). nat_cmp p.id id ≡ Greater) (slice_range order from to) at → IsNowhere order id
absent_between order id from to at rises within between parts k d below same =
    let count = length-between order from to within in
    let inside = between k d below same in
    let shift : from + (k - from) ≡ k = omega (arith, inside.0) in
    let part : k - from < length (slice_range order from to) = omega (arith, count, inside.0, inside.1) in
    let read = ap (λ (p : Place). p.id) (get_or-between order from to (k - from) d (omega (arith, inside.0, inside.1))) ∙ ap (λ i. (get_or order i d).id) shift in
    elim (cases_lt (k - from) at) [
      | inl lt ↦
          let less : (get_or (slice_range order from to) (k - from) d).id < id = ranked _ id _ (sym (parts.0 (k - from) d (omega arith) lt)) in
          omega (arith, less, read, same)
      | inr le ↦
          let more : id < (get_or (slice_range order from to) (k - from) d).id = ranked _ id _ (sym (parts.1 (k - from) d le part)) in
          omega (arith, more, read, same)
    ]

pub halved_found : (order : List Place) (id from to : ℕ) (r : Result ℕ ℕ) (at : ℕ) → r ≡ Ok at → to ≤ length order → IsSearchInRange r (length (slice_range order from to)) → IsBinarySearchResult (λ (p : Place). nat_cmp p.id id) (slice_range order from to) r → IsIndexOf order id (from + at)
halved_found order id from to r at is within in_range searched =
    let bound : IsSearchInRange (Ok at) (length (slice_range order from to)) = subst (λ (x : Result ℕ ℕ). IsSearchInRange x (length (slice_range order from to))) is in_range in
    let equal : IsBinarySearchResult (λ (p : Place). nat_cmp p.id id) (slice_range order from to) (Ok at) = subst (λ (x : Result ℕ ℕ). IsBinarySearchResult (λ (p : Place). nat_cmp p.id id) (slice_range order from to) x) is searched in
    found_between order id from to at within bound equal

pub halved_absent : (order : List Place) (id from to : ℕ) (r : Result ℕ ℕ) (at : ℕ) → r ≡ Err at → IsRising order → to ≤ length order → IsOnlyBetween order id from to → IsSearchInRange r (length (slice_range order from to)) → IsBinarySearchResult (λ (p : Place). nat_cmp p.id id) (slice_range order from to) r → IsNowhere order id
halved_absent order id from to r at is rises within between in_range searched =
    let parts : IsBinarySearchResult (λ (p : Place). nat_cmp p.id id) (slice_range order from to) (Err at) = subst (λ (x : Result ℕ ℕ). IsBinarySearchResult (λ (p : Place). nat_cmp p.id id) (slice_range order from to) x) is searched in
    absent_between order id from to at rises within between (parts (comparisons_rise order id from to rises within))
