-- Proofs about the step of the first build of an actor.
use Rattle.std.specs.Prelude.{◌≡◌, ◌≢◌, ℕ, ◌+◌, ◌-◌, ◌==◌, ◌<◌, ◌≤◌, ◌&&◌, Bool, true, false}
use Rattle.std.specs.Prelude.{if◌then◌else◌, nat_lt, not}
use Rattle.std.specs.Prelude.{List, [], ◌∷◌, ◌++◌, length, Option, Some, None, IsSomeAnd, refl}
use Rattle.std.specs.List.{All}
use Rattle.std.proofs.Common.{subst, inl, arith}
use Rattle.std.proofs.lemmas.Bool.{and_parts, ltb-true, not-true}
use Rattle.std.proofs.lemmas.List.{length-append}
use Rattle.std.proofs.lemmas.List.Elements.{All-cons, All-head, All-push, All-tail, All-weaker}
use Rattle.std.proofs.lemmas.List.Quantifiers.{all_pairs_push}
use Rattle.world_units.specs.declared.cell.CPos.{CPos}
use Rattle.world_units.specs.Angles.{dir_angle_of}
use Rattle.world_units.specs.Directions.{step_of}
use Rattle.rule_traits.specs.declared.kind.Kind.{Kind}
use Rattle.rule_traits.specs.Rules.{hp_of, kind_at}
use Rattle.game_model.specs.declared.actor.Actor.{Actor}
use Rattle.game_model.specs.declared.builds.Build.{Build}
use Rattle.game_model.specs.declared.limits.TheConstants.{MAX_ACTORS, MAX_BUILDS}
use Rattle.game_model.specs.ActorChanges.{changed_at}
use Rattle.game_model.specs.BestDirection.{directions}
use Rattle.game_model.specs.Buildings.{if_on, neighbour_of}
use Rattle.game_model.specs.Grid.{IsOn, at_cell, is_on}
use Rattle.game_model.specs.Setup.{Setup}
use Rattle.game_model.proofs.StartLemmas.{new_body_of}
use Rattle.game_model.specs.ValidWorld.{IsBodyOf, IsBuildOf, IsSoundActor, IsUnderWay}
use Rattle.game_model.specs.Walks.{cost_at}
use Rattle.game_model.specs.World.{full_health_of, is_alive, is_occupied, living_of, new_actor}
use Rattle.game_model.specs.World.{new_body}
use Rattle.game_model.specs.Kinds.{costs_in, kind_of}
use Rattle.game_tick.specs.declared.limits.TheConstants.{LAST_ID}
use Rattle.game_tick.specs.Building.{Built, after_build, built_first, came_out, exit_of, finished}
use Rattle.game_tick.specs.Building.{has_room, is_open, with_builds}
use Rattle.game_tick.proofs.ChangesLemmas.{All-changed, All-found, changed, length-changed_at}
use Rattle.game_tick.proofs.WayLemmas.{find_passes, free_cell, on_from_test}
use Rattle.game_tick.proofs.SoundLemmas.{AreSound, IsHurt, Steps, all_sound, body_of, some_weaker}
use Rattle.game_tick.proofs.SoundLemmas.{sound_builds}

-- Other builds of an actor.
pub builds_steps :
    (setup : Setup) (clients next_id : ℕ) (actors : List Actor) (a : Actor) (builds : List Build) →
    Steps setup clients next_id actors a → length builds ≤ MAX_BUILDS →
    All (IsBuildOf setup.rules (kind_of setup.rules a.kind)) builds →
    Steps setup clients next_id (changed_at actors a.id (with_builds builds)) (with_builds builds a)
builds_steps setup clients next_id actors a builds steps count each =
    changed setup clients next_id (IsHurt setup.rules) actors a (with_builds builds) steps refl
    (inl refl)
    (sound_builds setup clients next_id a builds steps.sound count each) steps.fine

-- A new id makes no actor less sound.
pub sound_later :
    (setup : Setup) (clients next_id : ℕ) (a : Actor) → IsSoundActor setup clients next_id a →
    IsSoundActor setup clients (next_id + 1) a
sound_later setup clients next_id a sound =
    record {
      least_id = sound.least_id;
      most_id = omega (arith, sound.most_id);
      owner = sound.owner;
      cell = sound.cell;
      facing = sound.facing;
      body = sound.body;
    }

-- An actor with the next id comes last.
pub appended :
    (setup : Setup) (clients next_id : ℕ) (actors : List Actor) (new : Actor) →
    AreSound setup clients next_id actors → length actors < MAX_ACTORS → new.id ≡ next_id →
    All (λ (b : Actor). b.cell ≢ new.cell) actors →
    IsSoundActor setup clients (next_id + 1) new → IsHurt setup.rules new →
    AreSound setup clients (next_id + 1) (actors ++ new ∷ [])
appended setup clients next_id actors new are room id free sound hurt =
    record {
      ready =
          record {
            each =
                All-push (IsSoundActor setup clients (next_id + 1)) actors new
                (All-weaker (IsSoundActor setup clients next_id)
                (IsSoundActor setup clients (next_id + 1)) (sound_later setup clients next_id)
                actors are.ready.each)
                sound;
            rise =
                all_pairs_push (λ (x y : Actor). x.id < y.id) actors new are.ready.rise
                (λ k d within. omega (arith, id, (are.ready.each k d within).most_id));
            apart =
                all_pairs_push (λ (x y : Actor). x.cell ≢ y.cell) actors new are.ready.apart free;
            count = omega (arith, room, length-append actors (new ∷ []));
            next = omega arith;
          };
      hurt = All-push (IsHurt setup.rules) actors new are.hurt hurt;
    }

-- A direction that finds an open neighbour: the neighbour is on the map and nobody holds it.
on_by :
    (on : Bool) (width height : ℕ) (q p : CPos) → is_on width height q ≡ on →
    (if on then Some q else None) ≡ Some p → IsOn width height p
on_by true width height q p is found =
    let same : q ≡ p = grind arith in
    subst (IsOn width height) same (on_from_test width height q is)
on_by false width height q p is found = absurd cc

neighbour_on_by :
    (width height : ℕ) (to : Option CPos) (p : CPos) → if_on width height to ≡ Some p →
    IsOn width height p
neighbour_on_by width height (Some q) p found =
    on_by (is_on width height q) width height q p refl found
neighbour_on_by width height None p found = absurd cc

open_by :
    (setup : Setup) (actors : List Actor) (product : Kind) (to : Option CPos) (p : CPos) →
    to ≡ Some p →
    is_open setup actors product to ≡ true → is_occupied actors p ≡ false
open_by setup actors product (Some q) p same passes =
    let at : q ≡ p = grind arith in
    let parts =
    and_parts (nat_lt 0 (cost_at (costs_in product.mobile) (at_cell setup.map.terrain q)))
    (not (is_occupied actors q)) passes in
    subst (λ r. is_occupied actors r ≡ false) at (not-true (is_occupied actors q) parts.1)
open_by setup actors product None p same passes = absurd cc

-- A new unit.
new_hurt :
    (found : Option Kind) (P : Kind → Type 0) → IsSomeAnd found P →
    IsSomeAnd found (λ kind. full_health_of found ≤ hp_of kind)
new_hurt None P never = absurd never
new_hurt (Some kind) P holds = omega arith

sound_unit :
    (setup : Setup) (clients next_id : ℕ) (a : Actor) (build : Build) (p : CPos) (d : ℕ) →
    IsSoundActor setup clients next_id a → 1 ≤ next_id → IsOn setup.map.width setup.map.height p →
    IsBuildOf setup.rules (kind_of setup.rules a.kind) build →
    IsSoundActor setup clients (next_id + 1)
    (new_actor setup.rules next_id build.kind a.body.owner p (dir_angle_of d))
sound_unit setup clients next_id a build p d sound least on is =
    let health : ℕ = full_health_of (kind_at setup.rules build.kind) in
    record {
      least_id = least;
      most_id = omega arith;
      owner = sound.owner;
      cell = on;
      facing = omega arith;
      body =
          some_weaker (kind_at setup.rules build.kind) (IsUnderWay build.left)
          (λ kind. IsBodyOf setup kind (new_body a.body.owner (dir_angle_of d) health))
          (λ kind way. new_body_of setup kind a.body.owner (dir_angle_of d) health) is.product;
    }

-- What the step leaves.
abbrev pub AreBuilt : Setup → (clients : ℕ) → Built → Type 0
AreBuilt setup clients built = AreSound setup clients built.next_id built.actors

came_out_sound :
    (setup : Setup) (clients next_id : ℕ) (actors : List Actor) (a : Actor) (build : Build)
    (rest : List Build) (d : ℕ) (to : Option CPos) →
    neighbour_of setup.map.width setup.map.height a.cell d ≡ to →
    is_open setup actors (kind_of setup.rules build.kind) to ≡ true →
    Steps setup clients next_id actors a → living_of actors a.id ≡ Some a →
    length actors < MAX_ACTORS →
    IsBuildOf setup.rules (kind_of setup.rules a.kind) build →
    AreSound setup clients next_id (changed_at actors a.id (with_builds rest)) →
    AreBuilt setup clients (came_out setup actors next_id a build rest d to)
came_out_sound setup clients next_id actors a build rest d None to passes steps living room is
    after =
    all_sound setup clients next_id actors a steps
came_out_sound setup clients next_id actors a build rest d (Some p) to passes steps living room
    is after =
    let free =
    free_cell actors p
    (open_by setup actors (kind_of setup.rules build.kind) (Some p) p refl passes) in
    let apart : a.cell ≢ p =
    All-found (λ (b : Actor). b.cell ≢ p) (λ (b : Actor). (b.id == a.id) && is_alive b) actors a
    free living in
    let on = neighbour_on_by setup.map.width setup.map.height (step_of a.cell d) p to in
    appended setup clients next_id (changed_at actors a.id (with_builds rest))
    (new_actor setup.rules next_id build.kind a.body.owner p (dir_angle_of d)) after
    (omega (arith, room, length-changed_at actors a.id (with_builds rest))) refl
    (All-changed (λ (b : Actor). b.cell ≢ p) actors a (with_builds rest) steps.only free apart)
    (sound_unit setup clients next_id a build p d steps.sound steps.ready.next on is)
    (new_hurt (kind_at setup.rules build.kind) (IsUnderWay build.left) is.product)

finished_sound :
    (setup : Setup) (clients next_id : ℕ) (actors : List Actor) (a : Actor) (build : Build)
    (rest : List Build) (exit : Option ℕ) →
    exit_of setup actors (kind_of setup.rules build.kind) a.cell ≡ exit →
    Steps setup clients next_id actors a → living_of actors a.id ≡ Some a →
    length actors < MAX_ACTORS →
    IsBuildOf setup.rules (kind_of setup.rules a.kind) build →
    AreSound setup clients next_id (changed_at actors a.id (with_builds rest)) →
    AreSound setup clients next_id
    (changed_at actors a.id (with_builds (record build { left = 0 } ∷ rest))) →
    AreBuilt setup clients (finished setup actors next_id a build rest exit)
finished_sound setup clients next_id actors a build rest None found steps living room is after
    waits = waits
finished_sound setup clients next_id actors a build rest (Some d) found steps living room is
    after waits =
    let product : Kind = kind_of setup.rules build.kind in
    let test : ℕ → Bool =
    λ e. is_open setup actors product (neighbour_of setup.map.width setup.map.height a.cell e) in
    came_out_sound setup clients next_id actors a build rest d
    (neighbour_of setup.map.width setup.map.height a.cell d) refl
    (find_passes test directions d found) steps living room is after

less_left :
    (rules : List Kind) (kind : Kind) (build : Build) (left : ℕ) → left ≤ build.left →
    IsBuildOf rules kind build → IsBuildOf rules kind (record build { left = left })
less_left rules kind build left less is =
    record {
      producer = is.producer;
      product =
          some_weaker (kind_at rules build.kind) (IsUnderWay build.left) (IsUnderWay left)
          (λ product way. record { unit = way.unit; rest = omega (arith, less, way.rest) })
          is.product;
    }

built_by :
    (done : Bool) (setup : Setup) (clients next_id : ℕ) (actors : List Actor) (a : Actor)
    (build : Build) (rest : List Build) →
    ((build.left - 1 == 0) && has_room actors next_id) ≡ done →
    Steps setup clients next_id actors a → living_of actors a.id ≡ Some a →
    IsBuildOf setup.rules (kind_of setup.rules a.kind) build →
    AreSound setup clients next_id (changed_at actors a.id (with_builds rest)) →
    ((left : ℕ) → left ≤ build.left →
    AreSound setup clients next_id
    (changed_at actors a.id (with_builds (record build { left = left } ∷ rest)))) →
    AreBuilt setup clients (
    if done
    then finished setup actors next_id a build rest
    (exit_of setup actors (kind_of setup.rules build.kind) a.cell)
    else record {
      actors = changed_at actors a.id (with_builds (record build { left = build.left - 1 } ∷ rest));
      next_id = next_id;
    })
built_by true setup clients next_id actors a build rest is steps living one after replaced =
    let room =
    and_parts (nat_lt (length actors) MAX_ACTORS) (nat_lt next_id LAST_ID)
    (and_parts (build.left - 1 == 0) (has_room actors next_id) is).1 in
    finished_sound setup clients next_id actors a build rest
    (exit_of setup actors (kind_of setup.rules build.kind) a.cell) refl steps living
    (ltb-true (length actors) MAX_ACTORS room.0) one after (replaced 0 (omega arith))
built_by false setup clients next_id actors a build rest is steps living one after replaced =
    replaced (build.left - 1) (omega arith)

first_by :
    (done : Bool) (setup : Setup) (clients next_id : ℕ) (actors : List Actor) (a : Actor)
    (build : Build) (rest : List Build) →
    ((build.left - 1 == 0) && has_room actors next_id) ≡ done → a.body.builds ≡ build ∷ rest →
    Steps setup clients next_id actors a → living_of actors a.id ≡ Some a →
    AreBuilt setup clients (
    if done
    then finished setup actors next_id a build rest
    (exit_of setup actors (kind_of setup.rules build.kind) a.cell)
    else record {
      actors = changed_at actors a.id (with_builds (record build { left = build.left - 1 } ∷ rest));
      next_id = next_id;
    })
first_by done setup clients next_id actors a build rest is has steps living =
    let kind : Kind = kind_of setup.rules a.kind in
    let P : Build → Type 0 = IsBuildOf setup.rules kind in
    let body = body_of setup clients next_id a steps.sound in
    let all : All P (build ∷ rest) = subst (All P) has body.builds in
    let count : length (build ∷ rest) ≤ MAX_BUILDS =
    subst (λ (bs : List Build). length bs ≤ MAX_BUILDS) has body.build_count in
    let one : P build = All-head P build rest all in
    let others : All P rest = All-tail P build rest all in
    let replaced :
    (left : ℕ) → left ≤ build.left → AreSound setup clients next_id
    (changed_at actors a.id (with_builds (record build { left = left } ∷ rest))) =
    λ left less. all_sound setup clients next_id _ _
    (builds_steps setup clients next_id actors a (record build { left = left } ∷ rest) steps
    (omega (arith, count))
    (All-cons P (record build { left = left }) rest
    (less_left setup.rules kind build left less one) others))
    in
    built_by done setup clients next_id actors a build rest is steps living one
    (all_sound setup clients next_id _ _
    (builds_steps setup clients next_id actors a rest steps (omega (arith, count)) others))
    replaced

built_by_room :
    (setup : Setup) (clients next_id : ℕ) (actors : List Actor) (a : Actor) (builds : List Build) →
    a.body.builds ≡ builds → Steps setup clients next_id actors a → living_of actors a.id ≡ Some a →
    AreBuilt setup clients (built_first setup actors next_id a builds)
built_by_room setup clients next_id actors a [] has steps living =
    all_sound setup clients next_id actors a steps
built_by_room setup clients next_id actors a (build ∷ rest) has steps living =
    first_by ((build.left - 1 == 0) && has_room actors next_id) setup clients next_id actors a build
    rest refl has steps living

-- The step of the first build.
pub build_sound :
    (setup : Setup) (clients next_id : ℕ) (actors : List Actor) (a : Actor) →
    Steps setup clients next_id actors a → living_of actors a.id ≡ Some a →
    AreBuilt setup clients (after_build setup actors next_id a)
unfolding after_build
build_sound setup clients next_id actors a steps living =
    built_by_room setup clients next_id actors a a.body.builds refl steps living
