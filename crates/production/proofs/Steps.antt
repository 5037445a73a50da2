-- The build step of an actor whose builds are known.
use Rattle.std.specs.List.{remove}
use Rattle.std.proofs.Common.{◌≡◌, ℕ, ◌+◌, ◌-◌, ◌==◌, ◌&&◌, eqb, Bool, true, false, List, [], ◌∷◌}
use Rattle.std.proofs.Common.{◌++◌, set, Some, None, slice_get, inl, inr, refl, sym, subst, ap, ap₂}
use Rattle.std.proofs.Common.{◌∙◌, ◌⊎◌}
use Rattle.std.proofs.lemmas.Bool.Decides.{eqb_tells}
use Rattle.world_units.specs.declared.cell.CPos.{CPos}
use Rattle.world_units.specs.Angles.{dir_angle_of}
use Rattle.game_model.specs.declared.actor.Actor.{Actor}
use Rattle.game_model.specs.declared.builds.Build.{Build}
use Rattle.game_model.specs.ActorChanges.{changed_at}
use Rattle.game_model.specs.Buildings.{neighbour_of}
use Rattle.game_model.specs.Setup.{Setup}
use Rattle.game_model.specs.World.{actor_of, new_actor}
use Rattle.game_model.specs.Kinds.{kind_of}
use Rattle.game_tick.specs.Building.{Built, with_builds, exit_of, has_room, built_first}
use Rattle.game_tick.specs.Building.{after_build}
use Rattle.game_model.proofs.FoundLemmas.{found_id}
use Rattle.production.specs.Exits.{exit_after}
use Rattle.production.specs.Steps.{built_by_id}

-- a build that waits, of an actor whose builds are known
first_waits : (setup : Setup) (actors : List Actor) (next_id : ℕ) (a : Actor) (builds : List Build) (build : Build) → slice_get builds 0 ≡ Some build → exit_after setup actors next_id (build.left - 1) build.kind a.cell ≡ None → built_first setup actors next_id a builds ≡ record { actors = changed_at actors a.id (with_builds (set builds 0 (record build { left = build.left - 1 }))); next_id = next_id }
first_waits setup actors next_id a [] build first none = absurd (cc)
first_waits setup actors next_id a (other ∷ rest) build first none =
    let is : other ≡ build = cc in
    subst (λ (x : Build). built_first setup actors next_id a (x ∷ rest) ≡ record { actors = changed_at actors a.id (with_builds (record build { left = build.left - 1 } ∷ rest)); next_id = next_id }) (sym is) (cases (eqb_tells (build.left - 1) 0))
  where
    stays : Built
    stays = record { actors = changed_at actors a.id (with_builds (record build { left = build.left - 1 } ∷ rest)); next_id = next_id }

    cases : ((eqb (build.left - 1) 0 ≡ true) × (build.left - 1 ≡ 0)) ⊎ ((eqb (build.left - 1) 0 ≡ false) × (build.left - 1 ≡ 0 → ⊥)) → built_first setup actors next_id a (build ∷ rest) ≡ stays
    cases (inl hit) = room (has_room actors next_id) refl
      where
        room : (b : Bool) → has_room actors next_id ≡ b → built_first setup actors next_id a (build ∷ rest) ≡ stays
        room true is_room =
            let no_exit : exit_of setup actors (kind_of setup.rules build.kind) a.cell ≡ None = rw (hit.0, is_room) at none in
            rw (hit.0, is_room, no_exit) (ap (λ n. record { actors = changed_at actors a.id (with_builds (record build { left = n } ∷ rest)); next_id = next_id }) (sym hit.1))
        room false no_room = rw (hit.0, no_room) refl
    cases (inr miss) = rw miss.0 refl

-- a unit that comes out, of an actor whose builds are known
first_out : (setup : Setup) (actors : List Actor) (next_id : ℕ) (a : Actor) (builds : List Build) (build : Build) (d : ℕ) (p : CPos) → slice_get builds 0 ≡ Some build → exit_after setup actors next_id (build.left - 1) build.kind a.cell ≡ Some d → neighbour_of setup.map.width setup.map.height a.cell d ≡ Some p → built_first setup actors next_id a builds ≡ record { actors = changed_at actors a.id (with_builds (remove builds 0)) ++ new_actor setup.rules next_id build.kind a.body.owner p (dir_angle_of d) ∷ []; next_id = next_id + 1 }
first_out setup actors next_id a [] build d p first out beside = absurd (cc)
first_out setup actors next_id a (other ∷ rest) build d p first out beside =
    let is : other ≡ build = cc in
    subst (λ (x : Build). built_first setup actors next_id a (x ∷ rest) ≡ comes) (sym is) (cases ((build.left - 1 == 0) && has_room actors next_id) refl)
  where
    comes : Built
    comes = record { actors = changed_at actors a.id (with_builds rest) ++ new_actor setup.rules next_id build.kind a.body.owner p (dir_angle_of d) ∷ []; next_id = next_id + 1 }

    cases : (b : Bool) → ((build.left - 1 == 0) && has_room actors next_id) ≡ b → built_first setup actors next_id a (build ∷ rest) ≡ comes
    cases true met =
        let exit : exit_of setup actors (kind_of setup.rules build.kind) a.cell ≡ Some d = rw met at out in
        rw (met, exit, beside) refl
    cases false fails = absurd (let none : None ≡ Some d = rw fails at out in cc)

-- an actor without builds
pub by_id_idle : (setup : Setup) (actors : List Actor) (next_id id : ℕ) (a : Actor) (builds : List Build) → actor_of actors id ≡ Some a → builds ≡ a.body.builds → builds ≡ [] → built_by_id setup actors next_id (actor_of actors id) ≡ record { actors = actors; next_id = next_id }
unfolding after_build
by_id_idle setup actors next_id id a builds found held none =
    let no_builds : a.body.builds ≡ [] = sym held ∙ none in
    rw (found, no_builds) refl

-- a build that waits
pub by_id_waits : (setup : Setup) (actors : List Actor) (next_id id left : ℕ) (a : Actor) (first : Build) (held builds : List Build) → actor_of actors id ≡ Some a → held ≡ a.body.builds → slice_get held 0 ≡ Some first → left ≡ first.left - 1 → exit_after setup actors next_id left first.kind a.cell ≡ None → builds ≡ set held 0 (record { kind = first.kind; left = left }) → built_by_id setup actors next_id (actor_of actors id) ≡ record { actors = changed_at actors id (with_builds builds); next_id = next_id }
unfolding after_build
by_id_waits setup actors next_id id left a first held builds found is_held at is_left none made =
    let at' : slice_get a.body.builds 0 ≡ Some first = rw is_held at at in
    let none' : exit_after setup actors next_id (first.left - 1) first.kind a.cell ≡ None = rw is_left at none in
    let made' : builds ≡ set a.body.builds 0 (record first { left = first.left - 1 }) = rw (is_held, is_left) at made in
    rw found (first_waits setup actors next_id a a.body.builds first at' none'
    ∙ ap₂ (λ n (bs : List Build). record { actors = changed_at actors n (with_builds bs); next_id = next_id }) (found_id actors id a found) (sym made'))

-- a unit that comes out
pub by_id_out : (setup : Setup) (actors : List Actor) (next_id id left d : ℕ) (p : CPos) (a : Actor) (first : Build) (held builds : List Build) → actor_of actors id ≡ Some a → held ≡ a.body.builds → slice_get held 0 ≡ Some first → left ≡ first.left - 1 → exit_after setup actors next_id left first.kind a.cell ≡ Some d → neighbour_of setup.map.width setup.map.height a.cell d ≡ Some p → builds ≡ remove held 0 → built_by_id setup actors next_id (actor_of actors id) ≡ record { actors = changed_at actors id (with_builds builds) ++ new_actor setup.rules next_id first.kind a.body.owner p (dir_angle_of d) ∷ []; next_id = next_id + 1 }
unfolding after_build
by_id_out setup actors next_id id left d p a first held builds found is_held at is_left out beside made =
    let at' : slice_get a.body.builds 0 ≡ Some first = rw is_held at at in
    let out' : exit_after setup actors next_id (first.left - 1) first.kind a.cell ≡ Some d = rw is_left at out in
    let made' : builds ≡ remove a.body.builds 0 = rw is_held at made in
    rw found (first_out setup actors next_id a a.body.builds first d p at' out' beside
    ∙ ap₂ (λ n (bs : List Build). record { actors = changed_at actors n (with_builds bs) ++ new_actor setup.rules next_id first.kind a.body.owner p (dir_angle_of d) ∷ []; next_id = next_id + 1 }) (found_id actors id a found) (sym made'))
