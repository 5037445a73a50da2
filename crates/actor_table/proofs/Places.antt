-- What a change of one slot makes of the actors along the order.
use Rattle.std.proofs.Common.{◌≡◌, ℕ, zero, suc, ◌+◌, ◌<◌, ◌≤◌, ◌≢◌, eqb, List, [], ◌∷◌, map, Option, Some, None, cond, slice_get, refl, sym, subst, ap, ap₂, ◌∙◌, arith}
use Rattle.std.specs.List.{AllByRecursion, remove}
use Rattle.std.specs.Option.{unwrap_or}
use Rattle.std.proofs.lemmas.Option.{same_Some}
use Rattle.std.proofs.lemmas.Bool.Decides.{nat_tests}
use Rattle.slab.specs.Slab.{Slab, get}
use Rattle.game_model.specs.declared.actor.Actor.{Actor}
use Rattle.game_model.specs.World.{actor_of, ids_of}
use Rattle.actor_table.specs.ActorList.{without_id}
use Rattle.game_model.specs.ActorChanges.{changed_at}
use Rattle.actor_table.specs.Rising.{RisesFrom}
use Rattle.actor_table.specs.Places.{nobody, actor_in, actors_in, IsFiled, AreFiled}
use Rattle.actor_table.specs.Search.{IsAbsent}
use Rattle.actor_table.specs.declared.place.Place.{Place}
use Rattle.actor_table.proofs.Rising.{rises_at}

-- the order of places
abbrev pub Rises : ℕ → List Place → Type 0
Rises least order = RisesFrom (λ (p : Place). p.id) least order

-- the ids along the order are those of the actors
pub ids_along : (slots : Slab Actor) (order : List Place) → AreFiled slots order → ids_of (actors_in slots order) ≡ map (λ (p : Place). p.id) order
ids_along slots [] filed = refl
ids_along slots (p ∷ order) filed = ap₂ (λ x xs. x ∷ xs) filed.0.named (ids_along slots order filed.1)

pub actors_rise : (slots : Slab Actor) (least : ℕ) (order : List Place) → Rises least order → AreFiled slots order → RisesFrom (λ (a : Actor). a.id) least (actors_in slots order)
actors_rise slots least [] rises filed = tt
actors_rise slots least (p ∷ order) rises filed =
    let next = actors_rise slots (p.id + 1) order rises.1 filed.1 in
    (rw filed.0.named rises.0, rw filed.0.named next)

pub filed_at : (slots : Slab Actor) (order : List Place) (i : ℕ) (p : Place) → AreFiled slots order → slice_get order i ≡ Some p → IsFiled slots p
filed_at slots [] i p filed at = absurd (cc)
filed_at slots (q ∷ order) zero p filed at = subst (IsFiled slots) (same_Some q p at) filed.0
filed_at slots (q ∷ order) (suc i) p filed at = filed_at slots order i p filed.1 at

-- places of two ids have two keys
pub keys_differ : (slots : Slab Actor) (p q : Place) → IsFiled slots p → IsFiled slots q → p.id < q.id → q.key ≢ p.key
keys_differ slots p q fp fq lt same =
    let ids : (actor_in slots q).id ≡ (actor_in slots p).id = ap (λ k. (unwrap_or (get slots k) nobody).id) same in
    omega (arith, fp.named, fq.named)

pub keys_differ_down : (slots : Slab Actor) (p q : Place) → IsFiled slots p → IsFiled slots q → q.id < p.id → q.key ≢ p.key
keys_differ_down slots p q fp fq lt same =
    let ids : (actor_in slots q).id ≡ (actor_in slots p).id = ap (λ k. (unwrap_or (get slots k) nobody).id) same in
    omega (arith, fp.named, fq.named)

-- the actor of the id at a place
pub found_at : (slots : Slab Actor) (least : ℕ) (order : List Place) (i : ℕ) (p : Place) → Rises least order → AreFiled slots order → slice_get order i ≡ Some p → actor_of (actors_in slots order) p.id ≡ Some (actor_in slots p)
found_at slots least [] i p rises filed at = absurd (cc)
found_at slots least (q ∷ order) zero p rises filed at =
    let same : q ≡ p = same_Some q p at in
    subst (λ (x : Place). actor_of (actors_in slots (q ∷ order)) x.id ≡ Some (actor_in slots x)) same (head (actor_in slots q) q.id filed.0.named)
  where
    head : (a : Actor) (id : ℕ) → a.id ≡ id → cond (eqb a.id id) (Some a) (actor_of (actors_in slots order) id) ≡ Some a
    head a id named = grind (arith, nat_tests)
found_at slots least (q ∷ order) (suc i) p rises filed at =
    let above : q.id + 1 ≤ p.id = rises_at (λ (p : Place). p.id) (q.id + 1) order i p rises.1 at in
    passed (actor_in slots q) q.id p.id (actor_of (actors_in slots order) p.id) filed.0.named above (found_at slots (q.id + 1) order i p rises.1 filed.1 at)
  where
    passed : (a : Actor) (at id : ℕ) (rest : Option Actor) {o : Option Actor} → a.id ≡ at → at + 1 ≤ id → rest ≡ o → cond (eqb a.id id) (Some a) rest ≡ o
    passed a at id rest named above found = grind (arith, nat_tests)

-- no actor of the list has the id
pub absent_is_none : (actors : List Actor) (id : ℕ) → IsAbsent actors id → actor_of actors id ≡ None
absent_is_none [] id absent = refl
absent_is_none (a ∷ actors) id absent = let rest = absent_is_none actors id absent.1 in let here = absent.0 in grind (arith, nat_tests)

pub without_absent : (actors : List Actor) (id : ℕ) → IsAbsent actors id → without_id actors id ≡ actors
without_absent [] id absent = refl
without_absent (a ∷ actors) id absent =
    let rest = without_absent actors id absent.1 in let here = absent.0 in grind (arith, nat_tests)

pub changed_absent : (actors : List Actor) (id : ℕ) (change : Actor → Actor) → IsAbsent actors id → changed_at actors id change ≡ actors
changed_absent [] id change absent = refl
changed_absent (a ∷ actors) id change absent =
    let rest = changed_absent actors id change absent.1 in let here = absent.0 in grind (arith, nat_tests)

-- ids from a later one on: an earlier one is absent
pub absent_below : (slots : Slab Actor) (id least : ℕ) (order : List Place) → id < least → Rises least order → AreFiled slots order → IsAbsent (actors_in slots order) id
absent_below slots id least [] lt rises filed = tt
absent_below slots id least (p ∷ order) lt rises filed =
    (λ same. omega (arith, filed.0.named, rises.0), absent_below slots id (p.id + 1) order (omega (arith, rises.0)) rises.1 filed.1)

module _ (old new : Slab Actor) (key : ℕ) (others : (other : ℕ) → other ≢ key → get new other ≡ get old other) where
  pub actor_stays : (q : Place) → q.key ≢ key → actor_in new q ≡ actor_in old q
  actor_stays q differs = ap (λ o. unwrap_or o nobody) (others q.key differs)

  pub filed_stays : (q : Place) → q.key ≢ key → IsFiled old q → IsFiled new q
  filed_stays q differs filed =
      record {
        there = others q.key differs ∙ filed.there ∙ ap Some (sym (actor_stays q differs));
        named = ap (λ (a : Actor). a.id) (actor_stays q differs) ∙ filed.named;
      }

  -- the places have other keys
  abbrev pub OtherKeys : List Place → Type 0
  OtherKeys order = AllByRecursion (λ (q : Place). q.key ≢ key) order

  pub actors_stay : (order : List Place) → OtherKeys order → actors_in new order ≡ actors_in old order
  actors_stay [] differ = refl
  actors_stay (q ∷ order) differ = ap₂ (λ x xs. x ∷ xs) (actor_stays q differ.0) (actors_stay order differ.1)

  pub filed_stay : (order : List Place) → OtherKeys order → AreFiled old order → AreFiled new order
  filed_stay [] differ filed = tt
  filed_stay (q ∷ order) differ filed = (filed_stays q differ.0 filed.0, filed_stay order differ.1 filed.1)

-- a key without a value is no place's
pub fresh_key : (slots : Slab Actor) (key : ℕ) (order : List Place) → get slots key ≡ None → AreFiled slots order → AllByRecursion (λ (q : Place). q.key ≢ key) order
fresh_key slots key [] vacant filed = tt
fresh_key slots key (q ∷ order) vacant filed =
    (λ same. taken (sym (filed.0.there) ∙ ap (get slots) same ∙ vacant), fresh_key slots key order vacant filed.1)
  where
    taken : {a : Actor} → Some a ≡ None → ⊥
    taken h = cc

-- the places after one have other keys
pub later_keys : (slots : Slab Actor) (p : Place) (least : ℕ) (order : List Place) → IsFiled slots p → p.id < least → Rises least order → AreFiled slots order → AllByRecursion (λ (q : Place). q.key ≢ p.key) order
later_keys slots p least [] fp lt rises filed = tt
later_keys slots p least (q ∷ order) fp lt rises filed =
    (keys_differ slots p q fp filed.0 (omega (arith, rises.0)), later_keys slots p (q.id + 1) order fp (omega (arith, rises.0)) rises.1 filed.1)

-- what a change of the actor at a place makes of the list
pub record Changes (old new : Slab Actor) (p : Place) (change : Actor → Actor) (order : List Place) : Type 0 where
  pub actors : actors_in new order ≡ changed_at (actors_in old order) p.id change
  pub filed : AreFiled new order

changed_here : (a : Actor) (id : ℕ) (change : Actor → Actor) → a.id ≡ id → cond (eqb a.id id) (change a) a ≡ change a
changed_here a id change named = grind (arith, nat_tests)

changed_past : (a : Actor) (at id : ℕ) (change : Actor → Actor) → a.id ≡ at → at < id → cond (eqb a.id id) (change a) a ≡ a
changed_past a at id change named lt = grind (arith, nat_tests)

module _ (old new : Slab Actor) (p : Place) (others : (other : ℕ) → other ≢ p.key → get new other ≡ get old other) (change : Actor → Actor) (set : get new p.key ≡ Some (change (actor_in old p))) (named : (change (actor_in old p)).id ≡ p.id) where
  set_actor : actor_in new p ≡ change (actor_in old p)
  set_actor = ap (λ o. unwrap_or o nobody) set

  pub changes_at : (least : ℕ) (order : List Place) (i : ℕ) → Rises least order → AreFiled old order → slice_get order i ≡ Some p → Changes old new p change order
  changes_at least [] i rises filed at = absurd (cc)
  changes_at least (q ∷ order) zero rises filed at =
      let same : q ≡ p = same_Some q p at in
      subst (λ (x : Place). Changes old new p change (x ∷ order)) (sym same) (here (subst (IsFiled old) same filed.0) (subst (λ (x : Place). Rises (x.id + 1) order) same rises.1))
    where
      here : IsFiled old p → Rises (p.id + 1) order → Changes old new p change (p ∷ order)
      here fp later =
          let keys = later_keys old p (p.id + 1) order fp (omega arith) later filed.1 in
          let rest = actors_stay old new p.key others order keys in
          let none = changed_absent (actors_in old order) p.id change (absent_below old p.id (p.id + 1) order (omega arith) later filed.1) in
          record {
            actors = ap₂ (λ x xs. x ∷ xs) (set_actor ∙ sym (changed_here (actor_in old p) p.id change fp.named)) (rest ∙ sym none);
            filed = (record { there = set ∙ ap Some (sym set_actor); named = ap (λ (a : Actor). a.id) set_actor ∙ named }, filed_stay old new p.key others order keys filed.1);
          }
  changes_at least (q ∷ order) (suc i) rises filed at =
      let above : q.id + 1 ≤ p.id = rises_at (λ (p : Place). p.id) (q.id + 1) order i p rises.1 at in
      let fp = filed_at old order i p filed.1 at in
      let key = keys_differ_down old p q fp filed.0 (omega arith) in
      let rest = changes_at (q.id + 1) order i rises.1 filed.1 at in
      record {
        actors = ap₂ (λ x xs. x ∷ xs) (actor_stays old new p.key others q key ∙ sym (changed_past (actor_in old q) q.id p.id change filed.0.named (omega arith))) rest.actors;
        filed = (filed_stays old new p.key others q key filed.0, rest.filed);
      }

-- what taking the actor at a place out makes of the list
pub record Removes (old new : Slab Actor) (p : Place) (order : List Place) (i : ℕ) : Type 0 where
  pub actors : actors_in new (remove order i) ≡ without_id (actors_in old order) p.id
  pub filed : AreFiled new (remove order i)

dropped_here : (a : Actor) (actors : List Actor) (id : ℕ) → a.id ≡ id → without_id (a ∷ actors) id ≡ without_id actors id
dropped_here a actors id named = grind (arith, nat_tests)

kept_past : (a : Actor) (actors : List Actor) (at id : ℕ) → a.id ≡ at → at < id → without_id (a ∷ actors) id ≡ a ∷ without_id actors id
kept_past a actors at id named lt = grind (arith, nat_tests)

module _ (old new : Slab Actor) (p : Place) (others : (other : ℕ) → other ≢ p.key → get new other ≡ get old other) where
  pub removes_at : (least : ℕ) (order : List Place) (i : ℕ) → Rises least order → AreFiled old order → slice_get order i ≡ Some p → Removes old new p order i
  removes_at least [] i rises filed at = absurd (cc)
  removes_at least (q ∷ order) zero rises filed at =
      let same : q ≡ p = same_Some q p at in
      subst (λ (x : Place). Removes old new p (x ∷ order) 0) (sym same) (here (subst (IsFiled old) same filed.0) (subst (λ (x : Place). Rises (x.id + 1) order) same rises.1))
    where
      here : IsFiled old p → Rises (p.id + 1) order → Removes old new p (p ∷ order) 0
      here fp later =
          let keys = later_keys old p (p.id + 1) order fp (omega arith) later filed.1 in
          let rest = actors_stay old new p.key others order keys in
          let none = without_absent (actors_in old order) p.id (absent_below old p.id (p.id + 1) order (omega arith) later filed.1) in
          record {
            actors = rest ∙ sym none ∙ sym (dropped_here (actor_in old p) (actors_in old order) p.id fp.named);
            filed = filed_stay old new p.key others order keys filed.1;
          }
  removes_at least (q ∷ order) (suc i) rises filed at =
      let above : q.id + 1 ≤ p.id = rises_at (λ (p : Place). p.id) (q.id + 1) order i p rises.1 at in
      let fp = filed_at old order i p filed.1 at in
      let key = keys_differ_down old p q fp filed.0 (omega arith) in
      let rest = removes_at (q.id + 1) order i rises.1 filed.1 at in
      record {
        actors = ap₂ (λ x xs. x ∷ xs) (actor_stays old new p.key others q key) rest.actors ∙ sym (kept_past (actor_in old q) (actors_in old order) q.id p.id filed.0.named (omega arith));
        filed = (filed_stays old new p.key others q key filed.0, rest.filed);
      }
