-- Where a node stands in a list, and what its key finds.
use Rattle.std.proofs.Common.{◌≡◌, ℕ, zero, suc, ◌<◌, List, refl, ap, ◌∙◌, arith, Some, None, sym}
use Rattle.std.proofs.Common.{inl, inr}
use Rattle.std.proofs.lemmas.Bool.{cases_Bool, cond-true, cond-false}
use Rattle.std.specs.Str.{bytes_eq}
use Rattle.yaml_lines.specs.declared.place.Place.{Place}
use Rattle.yaml_lines.specs.Trees.{Trees, none, more}
use Rattle.yaml_merge.specs.Places.{width, Stands, children_from, emptied, emptied_at, put_at}
use Rattle.yaml_merge.specs.Places.{removed_from}
use Rattle.yaml_merge.specs.Merging.{Lacks, joined, children_at, newer_value, with_first, without}
use Rattle.yaml_merge.specs.Resolving.{added}

pub stands_within : (key : List ℕ) (at : ℕ) (list : Trees) → Stands key at list → at < width list
stands_within key at none h = absurd h
stands_within key zero (more first value place children rest) h = omega arith
stands_within key (suc at) (more first value place children rest) h = omega (arith, stands_within key at rest h.1)

pub stands_children : (key : List ℕ) (at : ℕ) (list : Trees) → Stands key at list → children_from at list ≡ children_at key list
stands_children key at none h = absurd h
stands_children key zero (more first value place children rest) h = sym (cond-true _ _ _ h)
stands_children key (suc at) (more first value place children rest) h = stands_children key at rest h.1 ∙ sym (cond-false _ _ _ h.0)

pub lacks_children : (key : List ℕ) (list : Trees) → Lacks key list → none ≡ children_at key list
lacks_children key none h = refl
lacks_children key (more first value place children rest) h = lacks_children key rest h.1 ∙ sym (cond-false _ _ _ h.0)

-- A node that is there keeps its position.
pub put_joined : (key value : List ℕ) (place : Place) (below : Trees) (at : ℕ) (list : Trees) → Stands key at list →
    put_at at value place below list ≡ joined key value place (λ _. below) list
put_joined key value place below at none h = absurd h
put_joined key value place below zero (more first old last children rest) h = sym (cond-true _ _ _ h)
put_joined key value place below (suc at) (more first old last children rest) h =
    ap (λ l. more first old last children l) (put_joined key value place below at rest h.1) ∙ sym (cond-false _ _ _ h.0)

-- A new node comes last.
pub added_joined : (key value : List ℕ) (place : Place) (below list : Trees) → Lacks key list →
    added key value place below list ≡ joined key value place (λ _. below) list
added_joined key value place below none h = refl
added_joined key value place below (more first old last children rest) h =
    ap (λ l. more first old last children l) (added_joined key value place below rest h.1) ∙ sym (cond-false _ _ _ h.0)

pub emptied_stands : (key : List ℕ) (at : ℕ) (list : Trees) → Stands key at list → emptied_at at list ≡ emptied key list
emptied_stands key at none h = absurd h
emptied_stands key zero (more first value place children rest) h = sym (cond-true _ _ _ h)
emptied_stands key (suc at) (more first value place children rest) h =
    ap (λ l. more first value place children l) (emptied_stands key at rest h.1) ∙ sym (cond-false _ _ _ h.0)

pub emptied_lacks : (key : List ℕ) (list : Trees) → Lacks key list → list ≡ emptied key list
emptied_lacks key none h = refl
emptied_lacks key (more first value place children rest) h =
    ap (λ l. more first value place children l) (emptied_lacks key rest h.1) ∙ sym (cond-false _ _ _ h.0)

-- What joins a list brings its own children.
pub joined_emptied : (key value : List ℕ) (place : Place) (below list : Trees) →
    joined key value place (λ _. below) (emptied key list) ≡ joined key value place (λ _. below) list
joined_emptied key value place below none = refl
joined_emptied key value place below (more first old last children rest) = elim (cases_Bool (bytes_eq first key)) [
  | inl y ↦ ap (joined key value place (λ _. below)) (cond-true _ _ _ y) ∙ cond-true _ _ _ y ∙ sym (cond-true _ _ _ y)
  | inr n ↦ ap (joined key value place (λ _. below)) (cond-false _ _ _ n)
      ∙ cond-false _ _ _ n
      ∙ ap (λ l. more first old last children l) (joined_emptied key value place below rest)
      ∙ sym (cond-false _ _ _ n)
]

-- What joins a list takes part only by the children that are there.
pub joined_below : (key value : List ℕ) (place : Place) (below : Trees → Trees) (list : Trees) →
    joined key value place (λ _. below (children_at key list)) list ≡ joined key value place below list
joined_below key value place below none = refl
joined_below key value place below (more first old last children rest) = elim (cases_Bool (bytes_eq first key)) [
  | inl y ↦ cond-true _ _ _ y
      ∙ ap (λ c. more first (newer_value old value) place (below c) rest) (cond-true _ _ _ y)
      ∙ sym (cond-true _ _ _ y)
  | inr n ↦ cond-false _ _ _ n
      ∙ ap (λ c. more first old last children (joined key value place (λ _. below c) rest)) (cond-false _ _ _ n)
      ∙ ap (λ l. more first old last children l) (joined_below key value place below rest)
      ∙ sym (cond-false _ _ _ n)
]

pub without_at : (key : List ℕ) (at : ℕ) (list : Trees) → Stands key at list → without key list ≡ Some (removed_from at list)
without_at key at none h = absurd h
without_at key zero (more first value place children rest) h = cond-true _ _ _ h
without_at key (suc at) (more first value place children rest) h =
    cond-false _ _ _ h.0 ∙ ap (with_first first value place children) (without_at key at rest h.1)

pub without_none : (key : List ℕ) (list : Trees) → Lacks key list → without key list ≡ None
without_none key none h = refl
without_none key (more first value place children rest) h =
    cond-false _ _ _ h.0 ∙ ap (with_first first value place children) (without_none key rest h.1)
