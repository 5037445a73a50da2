-- Marks of idle actors stay right.
use Rattle.std.proofs.Common.{◌≡◌, ℕ, zero, suc, ◌+◌, ◌≤◌, eqb, Bool, true, false, List, [], ◌∷◌, ◌++◌, length, set, replicate, Some, IfSome, slice_get, inl, inr, refl, subst, arith}
use Rattle.std.proofs.lemmas.Bool.Decides.{eqb_tells, nat_tests}
use Rattle.world_units.specs.declared.cell.CPos.{CPos}
use Rattle.game_model.specs.declared.actor.Actor.{Actor}
use Rattle.game_model.specs.declared.actor.Body.{Body}
use Rattle.game_model.specs.ActorChanges.{changed_at, with_body, moved_to}
use Rattle.actor_table.specs.Idle.{IsIdle, AreIdle}
use Rattle.actor_table.specs.Search.{IsAt}
use Rattle.actor_table.proofs.Holders.{ActorsRise, rising_absent}
use Rattle.actor_table.proofs.Places.{changed_absent}

pub idle_none : (n : ℕ) (actors : List Actor) → AreIdle (replicate n false) actors
idle_none zero actors = tt
idle_none (suc n) [] = tt
idle_none (suc n) (a ∷ actors) = (λ marked. absurd (let no : false ≡ true = marked in cc), idle_none n actors)

past : (marks : List Bool) → AreIdle marks []
past [] = tt
past (mark ∷ marks) = tt

pub idle_push :
    (marks : List Bool) (actors : List Actor) (a : Actor) (mark : Bool) → AreIdle marks actors →
    (mark ≡ true → IsIdle a) → AreIdle (set marks (length actors) mark) (actors ++ a ∷ [])
idle_push [] actors a mark idle told = tt
idle_push (m ∷ marks) [] a mark idle told = (told, past marks)
idle_push (m ∷ marks) (b ∷ actors) a mark idle told = (idle.0, idle_push marks actors a mark idle.1 told)

pub idle_moved :
    (marks : List Bool) (actors : List Actor) (id : ℕ) (to : CPos) → AreIdle marks actors →
    AreIdle marks (moved_to actors id to)
idle_moved [] actors id to idle = tt
idle_moved (m ∷ marks) [] id to idle = tt
idle_moved (m ∷ marks) (a ∷ actors) id to idle = elim (eqb_tells a.id id) [
  | inl hit ↦ rw hit.0 (moved a idle.0, idle_moved marks actors id to idle.1)
  | inr miss ↦ rw miss.0 (idle.0, idle_moved marks actors id to idle.1)
]
  where
    moved : (a : Actor) → (m ≡ true → IsIdle a) → m ≡ true → IsIdle (record a { cell = to })
    moved a told marked =
        let here = told marked in
        record { reload = here.reload; acts = here.acts; leg = here.leg; builds = here.builds }

-- An id at a place of a rising list is no less than the first.
least_at : (least : ℕ) (actors : List Actor) (id at : ℕ) → ActorsRise least actors → IsAt actors id at → least ≤ id
least_at least [] id at rises there = absurd cc
least_at least (a ∷ actors) id zero rises there = let named : a.id ≡ id = cc in omega (arith, rises.0, named)
least_at least (a ∷ actors) id (suc at) rises there =
    omega (arith, rises.0, least_at (a.id + 1) actors id at rises.1 there)

pub idle_body :
    (least : ℕ) (marks : List Bool) (actors : List Actor) (id : ℕ) (body : Body) (at : ℕ) (mark : Bool) →
    ActorsRise least actors → IsAt actors id at → AreIdle marks actors →
    ((a : Actor) → a.body ≡ body → mark ≡ true → IsIdle a) → AreIdle (set marks at mark) (with_body actors id body)
idle_body least [] actors id body at mark rises there idle told = tt
idle_body least (m ∷ marks) [] id body at mark rises there idle told = absurd cc
idle_body least (m ∷ marks) (a ∷ actors) id body zero mark rises there idle told =
    let named : a.id ≡ id = cc in
    let hit : eqb a.id id ≡ true = grind (arith, nat_tests, named) in
    let rest : changed_at actors id (λ (x : Actor). record x { body = body }) ≡ actors =
    changed_absent actors id (λ (x : Actor). record x { body = body })
    (rising_absent id (a.id + 1) actors (omega (arith, named)) rises.1) in
    rw (hit, rest) (told (record a { body = body }) refl, idle.1)
idle_body least (m ∷ marks) (a ∷ actors) id body (suc at) mark rises there idle told =
    let above : a.id + 1 ≤ id = least_at (a.id + 1) actors id at rises.1 there in
    let miss : eqb a.id id ≡ false = grind (arith, nat_tests, above) in
    rw miss (idle.0, idle_body (a.id + 1) marks actors id body at mark rises.1 there idle.1 told)

pub idle_there :
    (marks : List Bool) (actors : List Actor) (i : ℕ) → AreIdle marks actors → slice_get marks i ≡ Some true →
    IfSome (slice_get actors i) IsIdle
idle_there [] actors i idle marked = absurd cc
idle_there (m ∷ marks) [] i idle marked = tt
idle_there (m ∷ marks) (a ∷ actors) zero idle marked = idle.0 (let same : m ≡ true = cc in same)
idle_there (m ∷ marks) (a ∷ actors) (suc i) idle marked = idle_there marks actors i idle.1 marked

pub idle_set :
    (marks : List Bool) (actors : List Actor) (i : ℕ) (a : Actor) (mark : Bool) → AreIdle marks actors →
    slice_get actors i ≡ Some a → (mark ≡ true → IsIdle a) → AreIdle (set marks i mark) actors
idle_set [] actors i a mark idle there told = tt
idle_set (m ∷ marks) [] i a mark idle there told = absurd cc
idle_set (m ∷ marks) (b ∷ actors) zero a mark idle there told =
    (λ marked. subst IsIdle (let same : a ≡ b = cc in same) (told marked), idle.1)
idle_set (m ∷ marks) (b ∷ actors) (suc i) a mark idle there told = (idle.0, idle_set marks actors i a mark idle.1 there told)
