-- Proofs about the actor of an id, and about its change in a list whose ids rise.
use Rattle.std.specs.List.{All, AllPairs}
use Rattle.std.specs.Option.{option_map}
use Rattle.std.proofs.Common.{◌≡◌, ◌≢◌, ℕ, zero, suc, ◌<◌, eqb, true, cond, List, [], ◌∷◌, length}
use Rattle.std.proofs.Common.{get_or, Some, None, inl, inr, refl, sym, subst, ap, ap₂, ◌∙◌, arith}
use Rattle.std.proofs.lemmas.Bool.Decides.{eqb_tells}
use Rattle.game_model.specs.declared.actor.Actor.{Actor}
use Rattle.game_model.specs.ActorChanges.{changed_at}
use Rattle.game_model.specs.World.{actor_of}

-- The ids of a list rise.
abbrev pub IdsRise : List Actor → Type 0
IdsRise actors = AllPairs (λ (a b : Actor). a.id < b.id) actors

later_rise : (a : Actor) (actors : List Actor) → IdsRise (a ∷ actors) → IdsRise actors
later_rise a actors rise i j d lt within = rise (suc i) (suc j) d (omega arith) (omega arith)

-- The actor that is found has the id.
pub found_id : (actors : List Actor) (id : ℕ) (a : Actor) → actor_of actors id ≡ Some a → a.id ≡ id
found_id [] id a found = absurd (cc)
found_id (b ∷ actors) id a found = elim (eqb_tells b.id id) [
  | inl hit ↦
      let is : Some b ≡ Some a = rw hit.0 at found in
      let same : b ≡ a = cc in
      ap (λ (x : Actor). x.id) (sym same) ∙ hit.1
  | inr miss ↦ found_id actors id a (rw miss.0 at found)
]

-- Without an actor of the id nothing changes.
pub changed_none :
    (actors : List Actor) (id : ℕ) (f : Actor → Actor) → actor_of actors id ≡ None →
    changed_at actors id f ≡ actors
changed_none [] id f none = refl
changed_none (b ∷ actors) id f none = elim (eqb_tells b.id id) [
  | inl hit ↦ let some : Some b ≡ None = rw hit.0 at none in absurd (cc)
  | inr miss ↦ rw miss.0 (ap (λ xs. b ∷ xs) (changed_none actors id f (rw miss.0 at none)))
]

-- The list after the first actor has its id no more.
changed_later :
    (actors : List Actor) (id : ℕ) (f : Actor → Actor) →
    ((k : ℕ) (d : Actor) → k < length actors → (get_or actors k d).id ≢ id) →
    changed_at actors id f ≡ actors
changed_later [] id f differs = refl
changed_later (b ∷ actors) id f differs = elim (eqb_tells b.id id) [
  | inl hit ↦ absurd (differs zero b (omega arith) hit.1)
  | inr miss ↦
      rw miss.0
      (ap (λ xs. b ∷ xs)
      (changed_later actors id f (λ k d within. differs (suc k) d (omega arith))))
]

-- Two changes that make the same of the actor of an id make the same of the list.
pub changed_as :
    (actors : List Actor) (id : ℕ) (a : Actor) (f g : Actor → Actor) → IdsRise actors →
    actor_of actors id ≡ Some a → f a ≡ g a → changed_at actors id f ≡ changed_at actors id g
changed_as [] id a f g rise found same = refl
changed_as (b ∷ actors) id a f g rise found same = elim (eqb_tells b.id id) [
  | inl hit ↦ rw hit.0 (ap₂ (λ x xs. x ∷ xs) (here hit.0) (rest f hit.1 ∙ sym (rest g hit.1)))
  | inr miss ↦
      rw miss.0
      (ap (λ xs. b ∷ xs)
      (changed_as actors id a f g (later_rise b actors rise) (rw miss.0 at found) same))
]
  where
    here : eqb b.id id ≡ true → f b ≡ g b
    here met =
        let is : Some b ≡ Some a = rw met at found in
        let first : b ≡ a = cc in
        ap f first ∙ same ∙ ap g (sym first)

    rest : (h : Actor → Actor) → b.id ≡ id → changed_at actors id h ≡ actors
    rest h hit =
        changed_later actors id h
        (λ k d within equal.
        let above : b.id < (get_or actors k d).id =
        rise zero (suc k) d (omega arith) (omega arith) in
        omega arith)

-- Two changes of one actor, one after the other. The first leaves ids as they are.
pub changed_twice :
    (actors : List Actor) (id : ℕ) (f g : Actor → Actor) → ((a : Actor) → (f a).id ≡ a.id) →
    changed_at (changed_at actors id f) id g ≡ changed_at actors id (λ a. g (f a))
changed_twice [] id f g keeps = refl
changed_twice (b ∷ actors) id f g keeps = elim (eqb_tells b.id id) [
  | inl hit ↦ rw hit.0 (ap₂ (λ x xs. x ∷ xs) (here hit.0) (changed_twice actors id f g keeps))
  | inr miss ↦ rw miss.0 (rw miss.0 (ap (λ xs. b ∷ xs) (changed_twice actors id f g keeps)))
]
  where
    here : eqb b.id id ≡ true → cond (eqb (f b).id id) (g (f b)) (f b) ≡ g (f b)
    here met = rw (keeps b) (rw met refl)

-- The actor of an id after a change that leaves ids as they are.
pub found_changed :
    (actors : List Actor) (id : ℕ) (f : Actor → Actor) → ((a : Actor) → (f a).id ≡ a.id) →
    actor_of (changed_at actors id f) id ≡ option_map f (actor_of actors id)
found_changed [] id f keeps = refl
found_changed (b ∷ actors) id f keeps = elim (eqb_tells b.id id) [
  | inl hit ↦ rw hit.0 (here hit.0)
  | inr miss ↦ rw miss.0 (rw miss.0 (found_changed actors id f keeps))
]
  where
    here :
        eqb b.id id ≡ true →
        cond (eqb (f b).id id) (Some (f b)) (actor_of (changed_at actors id f) id) ≡ Some (f b)
    here met = rw (keeps b) (rw met refl)

-- What holds of each actor holds of the one that is found.
pub found_all :
    (P : Actor → Type 0) (actors : List Actor) (id : ℕ) (a : Actor) → All P actors →
    actor_of actors id ≡ Some a → P a
found_all P [] id a each found = absurd (cc)
found_all P (b ∷ actors) id a each found = elim (eqb_tells b.id id) [
  | inl hit ↦ subst P (here hit.0) (each zero b (omega arith))
  | inr miss ↦
      found_all P actors id a (λ k d within. each (suc k) d (omega arith)) (rw miss.0 at found)
]
  where
    here : eqb b.id id ≡ true → b ≡ a
    here met = let is : Some b ≡ Some a = rw met at found in cc
