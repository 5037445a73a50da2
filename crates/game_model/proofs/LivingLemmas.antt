-- Proofs about the living actor of an id among actors whose ids rise.
use Rattle.std.proofs.Common.{◌≡◌, ◌≢◌, ℕ, zero, suc, ◌<◌, eqb, Bool, true, false, cond, List, [], ◌∷◌}
use Rattle.std.proofs.Common.{length, get_or, Option, Some, None, inl, inr, refl, sym, subst, ◌∙◌}
use Rattle.std.proofs.Common.{arith}
use Rattle.std.proofs.lemmas.Bool.Decides.{eqb_tells}
use Rattle.game_model.specs.declared.actor.Actor.{Actor}
use Rattle.game_model.specs.World.{actor_of, is_alive, living_of}
use Rattle.game_model.proofs.FoundLemmas.{IdsRise}

living_absent :
    (actors : List Actor) (id : ℕ) →
    ((i : ℕ) (d : Actor) → i < length actors → (get_or actors i d).id ≢ id) →
    living_of actors id ≡ None
living_absent [] id differs = refl
living_absent (b ∷ actors) id differs = elim (eqb_tells b.id id) [
  | inl hit ↦ absurd (differs 0 b (omega arith) hit.1)
  | inr miss ↦ rw miss.0 (living_absent actors id (λ i d within. differs (suc i) d (omega arith)))
]

-- Where ids rise, the living actor of an id is the actor of the id, if it lives.
pub living_found :
    (actors : List Actor) (id : ℕ) (a : Actor) → IdsRise actors → Some a ≡ actor_of actors id →
    living_of actors id ≡ cond (is_alive a) (Some a) None
living_found [] id a rise found = absurd (cc)
living_found (b ∷ actors) id a rise found = elim (eqb_tells b.id id) [
  | inl hit ↦
      subst (λ (x : Actor). living_of (b ∷ actors) id ≡ cond (is_alive x) (Some x) None)
      (some_here hit.0 found) (here hit.0 hit.1 (is_alive b) refl)
  | inr miss ↦
      rw miss.0
      (living_found actors id a
      (λ i j d lt within. rise (suc i) (suc j) d (omega arith) (omega arith)) (rw miss.0 at found)
      )
]
  where
    some_here :
        eqb b.id id ≡ true → Some a ≡ cond (eqb b.id id) (Some b) (actor_of actors id) → b ≡ a
    some_here met found = let some : Some a ≡ Some b = rw met at found in cc

    later : b.id ≡ id → living_of actors id ≡ None
    later same =
        living_absent actors id
        (λ i d within equal.
        let above : b.id < (get_or actors i d).id =
        rise 0 (suc i) d (omega arith) (omega arith) in
        omega (arith, same, equal))

    here :
        eqb b.id id ≡ true → b.id ≡ id → (alive : Bool) → is_alive b ≡ alive →
        living_of (b ∷ actors) id ≡ cond (is_alive b) (Some b) None
    here met same true lives = rw (met, lives) refl
    here met same false dead = rw (met, dead) (later same)

pub living_none :
    (actors : List Actor) (id : ℕ) → None ≡ actor_of actors id → living_of actors id ≡ None
living_none [] id none = refl
living_none (b ∷ actors) id none = elim (eqb_tells b.id id) [
  | inl hit ↦ (let some : None ≡ Some b = rw hit.0 at none in absurd (cc))
  | inr miss ↦ rw miss.0 (living_none actors id (rw miss.0 at none))
]

-- The actor at a place is the one of its id.
pub found_at :
    (actors : List Actor) (i : ℕ) (d : Actor) → IdsRise actors → i < length actors →
    actor_of actors (get_or actors i d).id ≡ Some (get_or actors i d)
found_at [] i d rise within = absurd (omega arith)
found_at (b ∷ actors) zero d rise within = elim (eqb_tells b.id b.id) [
  | inl hit ↦ rw hit.0 refl
  | inr miss ↦ absurd (miss.1 refl)
]
found_at (b ∷ actors) (suc i) d rise within =
    let above : b.id < (get_or actors i d).id = rise 0 (suc i) d (omega arith) within in
    elim (eqb_tells b.id (get_or actors i d).id) [
      | inl hit ↦ absurd (omega (arith, hit.1))
      | inr miss ↦
          rw miss.0
          (found_at actors i d
          (λ i j d lt within. rise (suc i) (suc j) d (omega arith) (omega arith)) (omega arith))
    ]

-- The living actor of an id is the actor of the id.
living_by :
    (actors : List Actor) (id : ℕ) (a : Actor) (found : Option Actor) → IdsRise actors →
    actor_of actors id ≡ found → living_of actors id ≡ Some a → found ≡ Some a
living_by actors id a None rise found lives =
    absurd (let no : None ≡ Some a = sym (living_none actors id (sym found)) ∙ lives in cc)
living_by actors id a (Some b) rise found lives =
    by_life (is_alive b) (sym (living_found actors id b rise (sym found)) ∙ lives) where
      by_life : (alive : Bool) → cond alive (Some b) None ≡ Some a → Some b ≡ Some a
      by_life true is = is
      by_life false is = absurd cc

pub living_actor :
    (actors : List Actor) (id : ℕ) (a : Actor) → IdsRise actors → living_of actors id ≡ Some a →
    actor_of actors id ≡ Some a
living_actor actors id a rise lives = living_by actors id a (actor_of actors id) rise refl lives
