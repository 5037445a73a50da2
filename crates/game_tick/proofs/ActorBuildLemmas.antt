-- Proofs of what the build step makes of each actor.
use Rattle.std.specs.Prelude.{◌≡◌, ℕ, ◌-◌, ◌<◌, ◌==◌, ◌&&◌, Bool, true, false, if◌then◌else◌, List}
use Rattle.std.specs.Prelude.{[], ◌∷◌, ◌++◌, length, get_or, Option, Some, None, is_some, refl}
use Rattle.std.specs.List.{All}
use Rattle.std.proofs.Common.{sym, ◌∙◌, ap, subst, arith}
use Rattle.std.proofs.lemmas.Bool.{and_parts}
use Rattle.std.proofs.lemmas.List.{get_or_append_left, get_or_push, length-append}
use Rattle.std.proofs.lemmas.List.Elements.{All-head}
use Rattle.world_units.specs.declared.cell.CPos.{CPos}
use Rattle.world_units.specs.Angles.{dir_angle_of}
use Rattle.rule_traits.specs.declared.kind.Kind.{Kind}
use Rattle.rule_traits.specs.Rules.{kind_at, moves, builds}
use Rattle.rule_traits.specs.Typed.{plain_kind}
use Rattle.game_model.specs.declared.actor.Actor.{Actor}
use Rattle.game_model.specs.declared.builds.Build.{Build}
use Rattle.game_model.specs.ActorChanges.{changed_at}
use Rattle.game_model.specs.Buildings.{neighbour_of}
use Rattle.game_model.specs.Setup.{Setup}
use Rattle.game_model.specs.ValidWorld.{IsBuildOf, IsUnderWay}
use Rattle.game_model.specs.World.{new_actor}
use Rattle.game_model.specs.Kinds.{kind_of}
use Rattle.game_tick.specs.Building.{Built, after_build, built_first, came_out, exit_of, finished}
use Rattle.game_tick.specs.Building.{has_room, with_builds}
use Rattle.game_tick.specs.StepKeeps.{ActorKeeps, ActorsKeep}
use Rattle.game_tick.proofs.ActorKeepsLemmas.{own_keeps, AllKeep, actor_then, same_actor, same_list}
use Rattle.game_tick.proofs.ChangesLemmas.{IsOnly}
use Rattle.game_tick.proofs.SoundLemmas.{some_holds}

-- All stay at their places, and then one more comes after them.
pub all_then_more :
    (rules : List Kind) (stepping next_id : ℕ) (a b c : List Actor) → AllKeep rules stepping a b →
    ActorsKeep rules stepping next_id b c → ActorsKeep rules stepping next_id a c
all_then_more rules stepping next_id a b c first second =
    record {
      least = omega (arith, first.count, second.least);
      most = omega (arith, first.count, second.most);
      each =
          λ k d within.
          actor_then rules stepping (get_or a k d) (get_or b k d) (get_or c k d)
          (first.each k d within)
          (second.each k d (omega (arith, within, first.count)));
      added_id = λ k d past within. second.added_id k d (omega (arith, past, first.count)) within;
      added_moves =
          λ k d past within. second.added_moves k d (omega (arith, past, first.count)) within;
    }

pub more_then_all :
    (rules : List Kind) (stepping next_id : ℕ) (a b c : List Actor) →
    ActorsKeep rules stepping next_id a b → AllKeep rules stepping b c →
    ActorsKeep rules stepping next_id a c
more_then_all rules stepping next_id a b c first second =
    record {
      least = omega (arith, second.count, first.least);
      most = omega (arith, second.count, first.most);
      each =
          λ k d within.
          actor_then rules stepping (get_or a k d) (get_or b k d) (get_or c k d)
          (first.each k d within)
          (second.each k d (omega (arith, within, first.least)));
      added_id =
          λ k d past within.
          let inside : k < length b = omega (arith, within, second.count) in
          (second.each k d inside).id ∙ first.added_id k d past inside;
      added_moves =
          λ k d past within.
          let inside : k < length b = omega (arith, within, second.count) in
          subst (λ n. moves (kind_of rules n) ≡ true) (sym (second.each k d inside).kind)
          (first.added_moves k d past inside);
    }

pub no_more :
    (rules : List Kind) (stepping next_id : ℕ) (a b : List Actor) → AllKeep rules stepping a b →
    ActorsKeep rules stepping next_id a b
no_more rules stepping next_id a b keeps =
    record {
      least = omega (arith, keeps.count);
      most = omega (arith, keeps.count);
      each = keeps.each;
      added_id = λ k d past within. absurd (omega (arith, past, within, keeps.count));
      added_moves = λ k d past within. absurd (omega (arith, past, within, keeps.count));
    }

one_more :
    (rules : List Kind) (stepping next_id : ℕ) (actors : List Actor) (new : Actor) →
    new.id ≡ next_id →
    moves (kind_of rules new.kind) ≡ true →
    ActorsKeep rules stepping next_id actors (actors ++ new ∷ [])
one_more rules stepping next_id actors new id can =
    record {
      least = omega (arith, length-append actors (new ∷ []));
      most = omega (arith, length-append actors (new ∷ []));
      each =
          λ k d within.
          subst (λ z. ActorKeeps rules stepping (get_or actors k d) z)
          (sym (get_or_append_left actors (new ∷ []) d k within))
          (same_actor rules stepping (get_or actors k d));
      added_id =
          λ k d past within.
          let last : length actors ≡ k =
          omega (arith, past, within, length-append actors (new ∷ [])) in
          ap (λ (b : Actor). b.id) (get_or_push actors new d k last) ∙ id;
      added_moves =
          λ k d past within.
          let last : length actors ≡ k =
          omega (arith, past, within, length-append actors (new ∷ [])) in
          subst (λ (b : Actor). moves (kind_of rules b.kind) ≡ true)
          (sym (get_or_push actors new d k last)) can;
    }

-- The build step.
builds_keep :
    (rules : List Kind) (actors : List Actor) (a : Actor) (builds : List Build) → IsOnly actors a →
    AllKeep rules a.id actors (changed_at actors a.id (with_builds builds))
builds_keep rules actors a builds only =
    own_keeps rules actors a (with_builds builds) (with_builds builds a).body only refl refl refl

unit_moves :
    (rules : List Kind) (kind : Kind) (build : Build) → IsBuildOf rules kind build →
    moves (kind_of rules build.kind) ≡ true
unit_moves rules kind build is =
    let way =
    some_holds (kind_at rules build.kind) (plain_kind []) (IsUnderWay build.left) is.product in
    (and_parts (is_some (kind_of rules build.kind).buildable) (moves (kind_of rules build.kind))
    way.unit).1

came_out_keeps :
    (setup : Setup) (actors : List Actor) (next_id : ℕ) (a : Actor) (build : Build)
    (rest : List Build) (d : ℕ) (to : Option CPos) →
    IsOnly actors a → moves (kind_of setup.rules build.kind) ≡ true →
    ActorsKeep setup.rules a.id next_id actors
    (came_out setup actors next_id a build rest d to).actors
came_out_keeps setup actors next_id a build rest d None only can =
    no_more setup.rules a.id next_id actors actors (same_list setup.rules a.id actors)
came_out_keeps setup actors next_id a build rest d (Some p) only can =
    let changed : List Actor = changed_at actors a.id (with_builds rest) in
    let new : Actor = new_actor setup.rules next_id build.kind a.body.owner p (dir_angle_of d) in
    all_then_more setup.rules a.id next_id actors changed (changed ++ new ∷ [])
    (builds_keep setup.rules actors a rest only)
    (one_more setup.rules a.id next_id changed new refl can)

finished_keeps :
    (setup : Setup) (actors : List Actor) (next_id : ℕ) (a : Actor) (build : Build)
    (rest : List Build) (exit : Option ℕ) →
    IsOnly actors a → moves (kind_of setup.rules build.kind) ≡ true →
    ActorsKeep setup.rules a.id next_id actors
    (finished setup actors next_id a build rest exit).actors
finished_keeps setup actors next_id a build rest None only can =
    no_more setup.rules a.id next_id actors
    (changed_at actors a.id (with_builds (record build { left = 0 } ∷ rest)))
    (builds_keep setup.rules actors a (record build { left = 0 } ∷ rest) only)
finished_keeps setup actors next_id a build rest (Some d) only can =
    came_out_keeps setup actors next_id a build rest d
    (neighbour_of setup.map.width setup.map.height a.cell d) only can

abbrev built_list : Built → List Actor
built_list built = built.actors

built_by_keeps :
    (done : Bool) (setup : Setup) (actors : List Actor) (next_id : ℕ) (a : Actor) (build : Build)
    (rest : List Build) →
    IsOnly actors a → moves (kind_of setup.rules build.kind) ≡ true →
    ActorsKeep setup.rules a.id next_id actors (built_list (
    if done
    then finished setup actors next_id a build rest
    (exit_of setup actors (kind_of setup.rules build.kind) a.cell)
    else record {
      actors = changed_at actors a.id (with_builds (record build { left = build.left - 1 } ∷ rest));
      next_id = next_id;
    }))
built_by_keeps true setup actors next_id a build rest only can =
    finished_keeps setup actors next_id a build rest
    (exit_of setup actors (kind_of setup.rules build.kind) a.cell) only can
built_by_keeps false setup actors next_id a build rest only can =
    no_more setup.rules a.id next_id actors
    (changed_at actors a.id (with_builds (record build { left = build.left - 1 } ∷ rest)))
    (builds_keep setup.rules actors a (record build { left = build.left - 1 } ∷ rest) only)

first_build_keeps :
    (setup : Setup) (actors : List Actor) (next_id : ℕ) (a : Actor) (builds : List Build) →
    IsOnly actors a →
    All (IsBuildOf setup.rules (kind_of setup.rules a.kind)) builds →
    ActorsKeep setup.rules a.id next_id actors (built_first setup actors next_id a builds).actors
first_build_keeps setup actors next_id a [] only all =
    no_more setup.rules a.id next_id actors actors (same_list setup.rules a.id actors)
first_build_keeps setup actors next_id a (build ∷ rest) only all =
    let kind : Kind = kind_of setup.rules a.kind in
    built_by_keeps ((build.left - 1 == 0) && has_room actors next_id) setup actors next_id a build
    rest only
    (unit_moves setup.rules kind build (All-head (IsBuildOf setup.rules kind) build rest all))

pub build_keeps :
    (setup : Setup) (actors : List Actor) (next_id : ℕ) (a : Actor) → IsOnly actors a →
    All (IsBuildOf setup.rules (kind_of setup.rules a.kind)) a.body.builds →
    ActorsKeep setup.rules a.id next_id actors (after_build setup actors next_id a).actors
unfolding after_build
build_keeps setup actors next_id a only all =
    first_build_keeps setup actors next_id a a.body.builds only all
