-- Proofs about lists of actors that are the same but for some, and the numbers kept of them.
use Rattle.std.proofs.Common.{◌≡◌, ℕ, ◌+◌, ◌<◌, ◌≤◌, Bool, true, false, eqb, List, [], ◌∷◌, ◌++◌, map, length, Some, None, inl, inr, refl, sym, ap, ap₂, subst, ◌∙◌, arith}
use Rattle.std.specs.Prelude.{nat_lt, ◌⊎◌, ◌||◌}
use Rattle.std.proofs.lemmas.Bool.Decides.{eqb_tells, nat_tests}
use Rattle.game_model.specs.declared.actor.Actor.{Actor}
use Rattle.game_model.specs.ActorChanges.{changed_at}
use Rattle.game_model.specs.World.{actor_of}
use Rattle.actor_table.specs.Rising.{RisesFrom}
use Rattle.sync_hash.specs.declared.actor_number.ActorNumber.{ActorNumber}
use Rattle.sync_hash.specs.Kept.{actor_number, has_id, numbered, with_number}
use Rattle.tick_core.specs.Touched.{GrowsBut, KeptBut, SameBut, is_among}

pub same_all : (ids : List ℕ) (actors : List Actor) → SameBut ids actors actors
same_all ids [] = tt
same_all ids (a ∷ actors) = (refl, (λ other. refl), same_all ids actors)

-- One after the other.
pub same_then :
    (ids : List ℕ) (old mid new : List Actor) → SameBut ids old mid → SameBut ids mid new →
    SameBut ids old new
same_then ids [] [] new first second = second
same_then ids [] (b ∷ mid) new first second = absurd first
same_then ids (a ∷ old) [] new first second = absurd first
same_then ids (a ∷ old) (b ∷ mid) [] first second = second
same_then ids (a ∷ old) (b ∷ mid) (c ∷ new) first second = (
  second.0 ∙ first.0,
  (λ other. second.1 (ap (is_among ids) first.0 ∙ other) ∙ first.1 other),
  same_then ids old mid new first.2 second.2,
)

pub same_grows :
    (ids : List ℕ) (old new : List Actor) → SameBut ids old new → GrowsBut ids old new
same_grows ids [] [] same = tt
same_grows ids [] (b ∷ new) same = absurd same
same_grows ids (a ∷ old) [] same = same
same_grows ids (a ∷ old) (b ∷ new) same = (same.0, same.1, same_grows ids old new same.2)

same_nil : (ids : List ℕ) (new : List Actor) → SameBut ids [] new → new ≡ []
same_nil ids [] same = refl
same_nil ids (b ∷ new) same = absurd same

pub grows_then :
    (ids : List ℕ) (old mid new : List Actor) → GrowsBut ids old mid → SameBut ids mid new →
    GrowsBut ids old new
grows_then ids [] [] new first second = same_grows ids [] new second
grows_then ids [] (b ∷ mid) [] first second = absurd second
grows_then ids [] (b ∷ mid) (c ∷ new) first second = (
  ap (is_among ids) second.0 ∙ first.0,
  same_nil ids new (subst (λ l. SameBut ids l new) first.1 second.2),
)
grows_then ids (a ∷ old) [] new first second = absurd first
grows_then ids (a ∷ old) (b ∷ mid) [] first second = second
grows_then ids (a ∷ old) (b ∷ mid) (c ∷ new) first second = (
  second.0 ∙ first.0,
  (λ other. second.1 (ap (is_among ids) first.0 ∙ other) ∙ first.1 other),
  grows_then ids old mid new first.2 second.2,
)

pub same_then_grows :
    (ids : List ℕ) (old mid new : List Actor) → SameBut ids old mid → GrowsBut ids mid new →
    GrowsBut ids old new
same_then_grows ids [] [] new first second = second
same_then_grows ids [] (b ∷ mid) new first second = absurd first
same_then_grows ids (a ∷ old) [] new first second = absurd first
same_then_grows ids (a ∷ old) (b ∷ mid) [] first second = second
same_then_grows ids (a ∷ old) (b ∷ mid) (c ∷ new) first second = (
  second.0 ∙ first.0,
  (λ other. second.1 (ap (is_among ids) first.0 ∙ other) ∙ first.1 other),
  same_then_grows ids old mid new first.2 second.2,
)

-- One more comes last.
pub same_pushed :
    (ids : List ℕ) (old new : List Actor) (x : Actor) → SameBut ids old new →
    is_among ids x.id ≡ true → GrowsBut ids old (new ++ x ∷ [])
same_pushed ids [] [] x same among = (among, refl)
same_pushed ids [] (b ∷ new) x same among = absurd same
same_pushed ids (a ∷ old) [] x same among = absurd same
same_pushed ids (a ∷ old) (b ∷ new) x same among =
    (same.0, same.1, same_pushed ids old new x same.2 among)

-- A change of an actor whose id is one of these and stays.
pub same_changed :
    (ids : List ℕ) (actors : List Actor) (id : ℕ) (f : Actor → Actor) → is_among ids id ≡ true →
    ((a : Actor) → (f a).id ≡ a.id) → SameBut ids actors (changed_at actors id f)
same_changed ids [] id f among keeps = tt
same_changed ids (a ∷ actors) id f among keeps = elim (eqb_tells a.id id) [
  | inl here ↦ rw here.0 (keeps a, (λ other. absurd (let both : true ≡ false = sym among ∙ sym (ap (is_among ids) here.1) ∙ other in cc)), same_changed ids actors id f among keeps)
  | inr there ↦ rw there.0 (refl, (λ other. refl), same_changed ids actors id f among keeps)
]

-- The numbers of the old list are those of the new one, but for what has changed.
pub kept_from :
    (ids : List ℕ) (old new : List Actor) → GrowsBut ids old new → KeptBut ids (map numbered old) new
kept_from ids [] [] same = tt
kept_from ids [] (b ∷ new) same = same
kept_from ids (a ∷ old) [] same = same
kept_from ids (a ∷ old) (b ∷ new) same = (
  sym same.0,
  (λ other. ap actor_number (sym (same.1 (ap (is_among ids) (sym same.0) ∙ other)))),
  kept_from ids old new same.2,
)

abbrev the_number : ℕ → ℕ → ActorNumber
the_number id number = record { id = id; number = number }

-- All numbers are right.
pub kept_all :
    (kept : List ActorNumber) (actors : List Actor) → KeptBut [] kept actors → kept ≡ map numbered actors
kept_all [] [] same = refl
kept_all [] (a ∷ actors) same = absurd (let no : false ≡ true = same.0 in cc)
kept_all (k ∷ kept) [] same = absurd same
kept_all (k ∷ kept) (a ∷ actors) same =
    ap₂ (λ (x : ActorNumber) (xs : List ActorNumber). x ∷ xs) (ap₂ the_number same.0 (same.1 refl)) (kept_all kept actors same.2)

abbrev Rise : ℕ → List Actor → Type 0
Rise least actors = RisesFrom (λ (a : Actor). a.id) least actors

-- Of actors whose ids rise, an id that is found is not below the first.
found_above :
    (least : ℕ) (actors : List Actor) (id : ℕ) (c : Actor) → Rise least actors →
    actor_of actors id ≡ Some c → least ≤ id
found_above least [] id c rise found = absurd (cc)
found_above least (a ∷ actors) id c rise found = elim (eqb_tells a.id id) [
  | inl here ↦ omega (arith, here.1, rise.0)
  | inr there ↦
      let rest : actor_of actors id ≡ Some c = rw there.0 at found in
      let more : a.id + 1 ≤ id = found_above (a.id + 1) actors id c rise.1 rest in
      omega (arith, more, rise.0)
]

absent_below :
    (least : ℕ) (actors : List Actor) (id : ℕ) → id < least → Rise least actors →
    actor_of actors id ≡ None
absent_below least [] id below rise = refl
absent_below least (a ∷ actors) id below rise = elim (eqb_tells a.id id) [
  | inl here ↦ absurd (omega (arith, here.1, rise.0, below))
  | inr there ↦ rw there.0 (absent_below (a.id + 1) actors id (omega (arith, rise.0, below)) rise.1)
]

-- An id that is not there needs no telling.
pub untold :
    (id : ℕ) (ids : List ℕ) (kept : List ActorNumber) (actors : List Actor) →
    KeptBut (id ∷ ids) kept actors → actor_of actors id ≡ None → KeptBut ids kept actors
untold id ids [] [] same none = tt
untold id ids [] (a ∷ actors) same none = elim (eqb_tells a.id id) [
  | inl here ↦ absurd (let some : Some a ≡ None = rw here.0 at none in cc)
  | inr there ↦ (rw there.0 at same.0, same.1)
]
untold id ids (k ∷ kept) [] same none = absurd same
untold id ids (k ∷ kept) (a ∷ actors) same none = elim (eqb_tells a.id id) [
  | inl here ↦ absurd (let some : Some a ≡ None = rw here.0 at none in cc)
  | inr there ↦ (
    same.0,
    (λ other. same.1 (rw there.0 other)),
    untold id ids kept actors same.2 (rw there.0 at none),
  )
]

-- The number of an id is told.
pub told :
    (id : ℕ) (ids : List ℕ) (least : ℕ) (kept : List ActorNumber) (actors : List Actor) (c : Actor) →
    Rise least actors → KeptBut (id ∷ ids) kept actors → actor_of actors id ≡ Some c →
    KeptBut ids (with_number kept id (actor_number c)) actors
told id ids least [] [] c rise same found = absurd (cc)
told id ids least [] (a ∷ actors) c rise same found = elim (eqb_tells a.id id) [
  | inl here ↦
      let is : Some a ≡ Some c = rw here.0 at found in
      let first : a ≡ c = cc in
      (sym here.1, (λ other. ap actor_number (sym first)), subst (λ l. KeptBut ids [] l) (sym same.1) tt)
  | inr there ↦
      let rest : actor_of actors id ≡ Some c = rw there.0 at found in
      let none : actor_of [] id ≡ Some c = subst (λ l. actor_of l id ≡ Some c) same.1 rest in
      absurd (let no : None ≡ Some c = none in cc)
]
told id ids least (k ∷ kept) [] c rise same found = absurd same
told id ids least (k ∷ kept) (a ∷ actors) c rise same found = elim (eqb_tells a.id id) [
  | inl here ↦
      let is : Some a ≡ Some c = rw here.0 at found in
      let first : a ≡ c = cc in
      let at : eqb k.id id ≡ true = ap (λ n. eqb n id) same.0 ∙ here.0 in
      let low : nat_lt k.id id ≡ false = grind (arith, nat_tests, here.1, same.0) in
      let rest : KeptBut ids kept actors =
      untold id ids kept actors same.2 (absent_below (a.id + 1) actors id (omega (arith, here.1)) rise.1) in
      rw (low, at) (sym here.1, (λ other. ap actor_number (sym first)), rest)
  | inr there ↦
      let rest : actor_of actors id ≡ Some c = rw there.0 at found in
      let above : a.id + 1 ≤ id = found_above (a.id + 1) actors id c rise.1 rest in
      let low : nat_lt k.id id ≡ true = grind (arith, nat_tests, above, same.0) in
      rw low (
        same.0,
        (λ other. same.1 (rw there.0 other)),
        told id ids (a.id + 1) kept actors c rise.1 same.2 rest,
      )
]

-- There is room for the number that is told.
has_later : (here later : Bool) → later ≡ true → (here || later) ≡ true
has_later true later is = refl
has_later false later is = is

pub has_place :
    (ids : List ℕ) (kept : List ActorNumber) (actors : List Actor) (id : ℕ) (c : Actor) →
    KeptBut ids kept actors → actor_of actors id ≡ Some c →
    (has_id kept id ≡ true) ⊎ (length kept < length actors)
has_place ids [] [] id c same found = absurd (cc)
has_place ids [] (a ∷ actors) id c same found = inr (omega arith)
has_place ids (k ∷ kept) [] id c same found = absurd same
has_place ids (k ∷ kept) (a ∷ actors) id c same found = elim (eqb_tells a.id id) [
  | inl here ↦
      let at : eqb k.id id ≡ true = ap (λ n. eqb n id) same.0 ∙ here.0 in
      inl (rw at refl)
  | inr there ↦ elim (has_place ids kept actors id c same.2 (rw there.0 at found)) [
    | inl has ↦ inl (has_later (eqb k.id id) (has_id kept id) has)
    | inr fewer ↦ inr (omega (arith, fewer))
  ]
]
