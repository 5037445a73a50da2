-- Who holds a cell, after an actor more, one less, one moved and one with another body.
use Rattle.std.proofs.Common.{◌≡◌, ℕ, ◌+◌, ◌<◌, ◌⊎◌, eqb, Bool, true, false, ◌||◌, cond, List, [], ◌∷◌, ◌++◌, Some, None, is_some, inl, inr, refl, sym, subst, ap, ◌∙◌, arith}
use Rattle.std.specs.List.{filter}
use Rattle.std.proofs.lemmas.Bool.Decides.{eqb_tells}
use Rattle.world_units.specs.declared.cell.CPos.{CPos}
use Rattle.world_units.specs.Cells.{same_cell}
use Rattle.world_units.specs.CellEquality.{cell_decides}
use Rattle.game_model.specs.declared.actor.Actor.{Actor}
use Rattle.game_model.specs.declared.actor.Body.{Body}
use Rattle.game_model.specs.World.{actor_of, is_occupied}
use Rattle.actor_table.specs.ActorList.{holder_of, without_id, CellsDiffer}
use Rattle.game_model.specs.ActorChanges.{with_body, moved_to}
use Rattle.actor_table.specs.Rising.{RisesFrom}
use Rattle.actor_table.specs.Search.{IsAbsent}
use Rattle.actor_table.proofs.Places.{changed_absent, without_absent}

pub bool_cases : (b : Bool) → (b ≡ true) ⊎ (b ≡ false)
bool_cases true = inl refl
bool_cases false = inr refl

pub cell_cases : (a b : CPos) → ((same_cell a b ≡ true) × (a ≡ b)) ⊎ (same_cell a b ≡ false)
cell_cases a b = elim (bool_cases (same_cell a b)) [
  | inl met ↦ inl (met, (cell_decides a b).0 met)
  | inr fails ↦ inr fails
]

pub or_false : (x y : Bool) → (x || y) ≡ false → (x ≡ false) × (y ≡ false)
or_false true y h = absurd (cc)
or_false false y h = (refl, h)

pub true_false : {b : Bool} → b ≡ true → b ≡ false → ⊥
true_false met fails = absurd (cc)

-- where one cell differs from a second and is a third, the second differs from the third
pub differs_from : (b a p : CPos) → same_cell b a ≡ false → b ≡ p → same_cell a p ≡ false
differs_from b a p apart is = elim (cell_cases a p) [
  | inl same ↦ absurd (true_false ((cell_decides b a).1 (is ∙ sym same.1)) apart)
  | inr fails ↦ fails
]

pub differs_back : (a b : CPos) → same_cell a b ≡ false → same_cell b a ≡ false
differs_back a b apart = elim (cell_cases b a) [
  | inl same ↦ absurd (true_false ((cell_decides a b).1 (sym same.1)) apart)
  | inr fails ↦ fails
]

abbrev pub ActorsRise : ℕ → List Actor → Type 0
ActorsRise least actors = RisesFrom (λ (a : Actor). a.id) least actors

-- an id below all is absent
pub rising_absent : (id least : ℕ) (actors : List Actor) → id < least → ActorsRise least actors → IsAbsent actors id
rising_absent id least [] lt rises = tt
rising_absent id least (a ∷ actors) lt rises = (λ same. omega (arith, rises.0), rising_absent id (a.id + 1) actors (omega (arith, rises.0)) rises.1)

-- nobody holds a cell exactly where it is free
pub holder_free : (actors : List Actor) (p : CPos) → is_occupied actors p ≡ false → holder_of actors p ≡ None
holder_free [] p free = refl
holder_free (a ∷ actors) p free =
    let parts = or_false (same_cell a.cell p) (is_occupied actors p) free in
    rw parts.0 (holder_free actors p parts.1)

pub holder_is_some : (actors : List Actor) (p : CPos) → is_some (holder_of actors p) ≡ is_occupied actors p
holder_is_some [] p = refl
holder_is_some (a ∷ actors) p = elim (bool_cases (same_cell a.cell p)) [
  | inl met ↦ rw met refl
  | inr fails ↦ rw fails (holder_is_some actors p)
]

-- an actor more
pub holder_push : (actors : List Actor) (a : Actor) (p : CPos) → is_occupied actors a.cell ≡ false → holder_of (actors ++ a ∷ []) p ≡ cond (same_cell a.cell p) (Some a.id) (holder_of actors p)
holder_push [] a p free = elim (bool_cases (same_cell a.cell p)) [
  | inl met ↦ rw met refl
  | inr fails ↦ rw fails refl
]
holder_push (b ∷ actors) a p free =
    let parts = or_false (same_cell b.cell a.cell) (is_occupied actors a.cell) free in
    elim (cell_cases b.cell p) [
      | inl same ↦ rw (same.0, differs_from b.cell a.cell p parts.0 same.1) refl
      | inr fails ↦ rw fails (holder_push actors a p parts.1)
    ]

-- the actor of an id does not hold a cell that is free
pub found_apart : (actors : List Actor) (id : ℕ) (a : Actor) (p : CPos) → actor_of actors id ≡ Some a → is_occupied actors p ≡ false → same_cell a.cell p ≡ false
found_apart [] id a p found free = absurd (cc)
found_apart (b ∷ actors) id a p found free =
    let parts = or_false (same_cell b.cell p) (is_occupied actors p) free in
    elim (bool_cases (eqb b.id id)) [
      | inl met ↦ subst (λ (x : Actor). same_cell x.cell p ≡ false) (here met found) parts.0
      | inr fails ↦ found_apart actors id a p (rw fails at found) parts.1
    ]
  where
    here : eqb b.id id ≡ true → cond (eqb b.id id) (Some b) (actor_of actors id) ≡ Some a → b ≡ a
    here met found = let some : Some b ≡ Some a = rw met at found in cc

-- one less
pub holder_without : (least : ℕ) (actors : List Actor) (id : ℕ) (a : Actor) (p : CPos) → ActorsRise least actors → CellsDiffer actors → actor_of actors id ≡ Some a → holder_of (without_id actors id) p ≡ cond (same_cell a.cell p) None (holder_of actors p)
holder_without least [] id a p rises differ found = absurd (cc)
holder_without least (b ∷ actors) id a p rises differ found = elim (eqb_tells b.id id) [
  | inl met ↦ here met.0 met.1 (some_here met.0 found)
  | inr fails ↦ later fails.0 (rw fails.0 at found) (holder_without (b.id + 1) actors id a p rises.1 differ.1 (rw fails.0 at found))
]
  where
    some_here : eqb b.id id ≡ true → cond (eqb b.id id) (Some b) (actor_of actors id) ≡ Some a → b ≡ a
    some_here met found = let some : Some b ≡ Some a = rw met at found in cc

    free_here : same_cell b.cell p ≡ true → b.cell ≡ p → holder_of actors p ≡ None
    free_here met is = holder_free actors p (subst (λ c. is_occupied actors c ≡ false) is differ.0)

    here : eqb b.id id ≡ true → b.id ≡ id → b ≡ a → holder_of (without_id (b ∷ actors) id) p ≡ cond (same_cell a.cell p) None (holder_of (b ∷ actors) p)
    here met same is =
        let rest : without_id actors id ≡ actors = without_absent actors id (rising_absent id (b.id + 1) actors (omega arith) rises.1) in
        subst (λ (x : Actor). holder_of (without_id (b ∷ actors) id) p ≡ cond (same_cell x.cell p) None (holder_of (b ∷ actors) p)) is (rw (met, rest) (elim (cell_cases b.cell p) [
          | inl same ↦ rw same.0 (free_here same.0 same.1)
          | inr fails ↦ rw fails refl
        ]))

    later : eqb b.id id ≡ false → actor_of actors id ≡ Some a → holder_of (without_id actors id) p ≡ cond (same_cell a.cell p) None (holder_of actors p) → holder_of (without_id (b ∷ actors) id) p ≡ cond (same_cell a.cell p) None (holder_of (b ∷ actors) p)
    later fails found rest =
        rw fails (elim (cell_cases b.cell p) [
          | inl same ↦ rw (same.0, subst (λ c. same_cell a.cell c ≡ false) same.1 (found_apart actors id a b.cell found differ.0)) refl
          | inr off ↦ rw off rest
        ])

-- one moved to a free cell
pub holder_moved : (least : ℕ) (actors : List Actor) (id : ℕ) (a : Actor) (to p : CPos) → ActorsRise least actors → CellsDiffer actors → actor_of actors id ≡ Some a → is_occupied actors to ≡ false → holder_of (moved_to actors id to) p ≡ cond (same_cell to p) (Some id) (cond (same_cell a.cell p) None (holder_of actors p))
holder_moved least [] id a to p rises differ found free = absurd (cc)
holder_moved least (b ∷ actors) id a to p rises differ found free = elim (eqb_tells b.id id) [
  | inl met ↦ here met.0 met.1 (some_here met.0 found)
  | inr fails ↦ later fails.0 (rw fails.0 at found) (holder_moved (b.id + 1) actors id a to p rises.1 differ.1 (rw fails.0 at found) (or_false (same_cell b.cell to) (is_occupied actors to) free).1)
]
  where
    parts : (same_cell b.cell to ≡ false) × (is_occupied actors to ≡ false)
    parts = or_false (same_cell b.cell to) (is_occupied actors to) free

    some_here : eqb b.id id ≡ true → cond (eqb b.id id) (Some b) (actor_of actors id) ≡ Some a → b ≡ a
    some_here met found = let some : Some b ≡ Some a = rw met at found in cc

    free_here : b.cell ≡ p → holder_of actors p ≡ None
    free_here is = holder_free actors p (subst (λ c. is_occupied actors c ≡ false) is differ.0)

    here : eqb b.id id ≡ true → b.id ≡ id → b ≡ a → holder_of (moved_to (b ∷ actors) id to) p ≡ cond (same_cell to p) (Some id) (cond (same_cell a.cell p) None (holder_of (b ∷ actors) p))
    here met same is =
        let rest : moved_to actors id to ≡ actors = changed_absent actors id _ (rising_absent id (b.id + 1) actors (omega arith) rises.1) in
        subst (λ (x : Actor). holder_of (moved_to (b ∷ actors) id to) p ≡ cond (same_cell to p) (Some id) (cond (same_cell x.cell p) None (holder_of (b ∷ actors) p))) is (rw (met, rest) (elim (bool_cases (same_cell to p)) [
          | inl hit ↦ rw hit (ap Some same)
          | inr miss ↦ rw miss (elim (cell_cases b.cell p) [
            | inl at ↦ rw at.0 (free_here at.1)
            | inr off ↦ rw off refl
          ])
        ]))

    later : eqb b.id id ≡ false → actor_of actors id ≡ Some a → holder_of (moved_to actors id to) p ≡ cond (same_cell to p) (Some id) (cond (same_cell a.cell p) None (holder_of actors p)) → holder_of (moved_to (b ∷ actors) id to) p ≡ cond (same_cell to p) (Some id) (cond (same_cell a.cell p) None (holder_of (b ∷ actors) p))
    later fails found rest =
        rw fails (elim (cell_cases b.cell p) [
          | inl at ↦ rw (at.0, differs_from b.cell to p parts.0 at.1, subst (λ c. same_cell a.cell c ≡ false) at.1 (found_apart actors id a b.cell found differ.0)) refl
          | inr off ↦ rw off rest
        ])

-- another body changes fails cell
pub holder_body : (actors : List Actor) (id : ℕ) (body : Body) (p : CPos) → holder_of (with_body actors id body) p ≡ holder_of actors p
holder_body [] id body p = refl
holder_body (b ∷ actors) id body p =
    let rest = holder_body actors id body p in
    elim (bool_cases (eqb b.id id)) [
      | inl met ↦ rw met (elim (bool_cases (same_cell b.cell p)) [ inl hit ↦ rw hit refl | inr miss ↦ rw miss rest ])
      | inr fails ↦ rw fails (elim (bool_cases (same_cell b.cell p)) [ inl hit ↦ rw hit refl | inr miss ↦ rw miss rest ])
    ]

pub occupied_body : (actors : List Actor) (id : ℕ) (body : Body) (p : CPos) → is_occupied (with_body actors id body) p ≡ is_occupied actors p
occupied_body [] id body p = refl
occupied_body (b ∷ actors) id body p =
    let rest = occupied_body actors id body p in
    elim (bool_cases (eqb b.id id)) [
      | inl met ↦ rw met (ap (λ o. same_cell b.cell p || o) rest)
      | inr fails ↦ rw fails (ap (λ o. same_cell b.cell p || o) rest)
    ]

pub differ_body : (actors : List Actor) (id : ℕ) (body : Body) → CellsDiffer actors → CellsDiffer (with_body actors id body)
differ_body [] id body differ = tt
differ_body (b ∷ actors) id body differ = elim (bool_cases (eqb b.id id)) [
  | inl met ↦ rw met (occupied_body actors id body b.cell ∙ differ.0, differ_body actors id body differ.1)
  | inr fails ↦ rw fails (occupied_body actors id body b.cell ∙ differ.0, differ_body actors id body differ.1)
]

-- cells stay apart
occupied_push : (actors : List Actor) (a : Actor) (p : CPos) → is_occupied actors p ≡ false → same_cell a.cell p ≡ false → is_occupied (actors ++ a ∷ []) p ≡ false
occupied_push [] a p free apart = rw apart refl
occupied_push (b ∷ actors) a p free apart = let parts = or_false (same_cell b.cell p) (is_occupied actors p) free in rw parts.0 (occupied_push actors a p parts.1 apart)

pub differ_push : (actors : List Actor) (a : Actor) → CellsDiffer actors → is_occupied actors a.cell ≡ false → CellsDiffer (actors ++ a ∷ [])
differ_push [] a differ free = (refl, tt)
differ_push (b ∷ actors) a differ free =
    let parts = or_false (same_cell b.cell a.cell) (is_occupied actors a.cell) free in
    (occupied_push actors a b.cell differ.0 (differs_back b.cell a.cell parts.0), differ_push actors a differ.1 parts.1)

occupied_filter : (test : Actor → Bool) (actors : List Actor) (p : CPos) → is_occupied actors p ≡ false → is_occupied (filter test actors) p ≡ false
occupied_filter test [] p free = refl
occupied_filter test (b ∷ actors) p free =
    let parts = or_false (same_cell b.cell p) (is_occupied actors p) free in
    elim (bool_cases (test b)) [
      | inl met ↦ rw (met, parts.0) (occupied_filter test actors p parts.1)
      | inr fails ↦ rw fails (occupied_filter test actors p parts.1)
    ]

pub differ_filter : (test : Actor → Bool) (actors : List Actor) → CellsDiffer actors → CellsDiffer (filter test actors)
differ_filter test [] differ = tt
differ_filter test (b ∷ actors) differ = elim (bool_cases (test b)) [
  | inl met ↦ rw met (occupied_filter test actors b.cell differ.0, differ_filter test actors differ.1)
  | inr fails ↦ rw fails (differ_filter test actors differ.1)
]

occupied_moved : (actors : List Actor) (id : ℕ) (to p : CPos) → is_occupied actors p ≡ false → same_cell to p ≡ false → is_occupied (moved_to actors id to) p ≡ false
occupied_moved [] id to p free apart = refl
occupied_moved (b ∷ actors) id to p free apart =
    let parts = or_false (same_cell b.cell p) (is_occupied actors p) free in
    let rest = occupied_moved actors id to p parts.1 apart in
    elim (bool_cases (eqb b.id id)) [
      | inl met ↦ rw (met, apart) rest
      | inr fails ↦ rw (fails, parts.0) rest
    ]

pub differ_moved : (least : ℕ) (actors : List Actor) (id : ℕ) (to : CPos) → ActorsRise least actors → CellsDiffer actors → is_occupied actors to ≡ false → CellsDiffer (moved_to actors id to)
differ_moved least [] id to rises differ free = tt
differ_moved least (b ∷ actors) id to rises differ free =
    let parts = or_false (same_cell b.cell to) (is_occupied actors to) free in
    elim (eqb_tells b.id id) [
      | inl met ↦ rw (met.0, changed_absent actors id (λ (a : Actor). record a { cell = to }) (rising_absent id (b.id + 1) actors (omega (arith, met.1)) rises.1)) (parts.1, differ.1)
      | inr fails ↦ rw fails.0 (occupied_moved actors id to b.cell differ.0 (differs_back b.cell to parts.0), differ_moved (b.id + 1) actors id to rises.1 differ.1 parts.1)
    ]
