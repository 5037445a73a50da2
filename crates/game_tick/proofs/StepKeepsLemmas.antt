-- Proofs of what the steps of actors keep, whatever world they are of.
use Rattle.std.specs.Prelude.{◌≡◌, ℕ, ◌+◌, ◌-◌, ◌≤◌, ◌==◌, ◌&&◌, Bool, true, false, if◌then◌else◌}
use Rattle.std.specs.Prelude.{List, [], ◌∷◌, length, Option, Some, None, refl}
use Rattle.std.proofs.Common.{◌∙◌, subst, arith}
use Rattle.twister.specs.Place.{Place, after_word}
use Rattle.world_units.specs.declared.cell.CPos.{CPos}
use Rattle.activities.specs.declared.activity.Activity.{Activity}
use Rattle.activities.specs.declared.activity.Activity.TheVariants.{Move, Attack, Harvest, Deliver}
use Rattle.rule_traits.specs.declared.kind.Kind.{Kind}
use Rattle.rule_traits.specs.Rules.{moves}
use Rattle.game_model.specs.declared.actor.Actor.{Actor}
use Rattle.game_model.specs.declared.actor.Leg.{Leg}
use Rattle.game_model.specs.declared.builds.Build.{Build}
use Rattle.game_model.specs.declared.world.World.{World}
use Rattle.game_model.specs.ActorChanges.{changed_at}
use Rattle.game_model.specs.Buildings.{neighbour_of}
use Rattle.game_model.specs.Grid.{Grid}
use Rattle.game_model.specs.Setup.{Setup}
use Rattle.game_model.specs.World.{ids_of, living_of}
use Rattle.game_model.specs.Kinds.{kind_of}
use Rattle.game_tick.specs.Acts.{popped}
use Rattle.game_tick.specs.Attacking.{Fought, after_attack, fought_with, hit_by, is_in_range}
use Rattle.game_tick.specs.Attacking.{points_of, reloading}
use Rattle.game_tick.specs.Building.{after_build, built_first, came_out, exit_of, finished}
use Rattle.game_tick.specs.Building.{has_room, with_builds}
use Rattle.game_tick.specs.Harvesting.{Harvested, after_deliver, after_harvest}
use Rattle.game_tick.specs.Moving.{after_leg, after_move, gone_towards}
use Rattle.game_tick.specs.StepKeeps.{HasNoMoreOre, StepKeeps}
use Rattle.game_tick.specs.Turn.{after_activity, after_first, after_step, after_steps, after_turn}
use Rattle.game_tick.specs.Turn.{after_way, blocks_of, dice_of, harvest_of, step_if, with_build}
use Rattle.game_tick.specs.Turn.{with_fought, with_harvested, with_reload, with_way}
use Rattle.game_tick.proofs.CashLemmas.{same_cash, then_cash}
use Rattle.game_tick.proofs.HarvestKeepsLemmas.{harvest_keeps, deliver_keeps, HarvestKeeps}
use Rattle.game_tick.proofs.OreLemmas.{same_ore}

pub no_more_then : (a b c : Grid ℕ) → HasNoMoreOre a b → HasNoMoreOre b c → HasNoMoreOre a c
no_more_then a b c first second =
    record {
      width = second.width ∙ first.width;
      height = second.height ∙ first.height;
      count = second.count ∙ first.count;
      most = λ k. omega (arith, first.most k, second.most k);
    }

pub step_then :
    (m n : ℕ) (a b c : World) → StepKeeps m a b → StepKeeps n b c → StepKeeps (m + n) a c
step_then m n a b c first second =
    record {
      tick = second.tick ∙ first.tick;
      seed = second.seed ∙ first.seed;
      pace = second.pace ∙ first.pace;
      gone = second.gone ∙ first.gone;
      cash = then_cash a.cash b.cash c.cash first.cash second.cash;
      ore = no_more_then a.ore b.ore c.ore first.ore second.ore;
      drawn_least = omega (arith, first.drawn_least, second.drawn_least);
      drawn_most = omega (arith, first.drawn_most, second.drawn_most);
      next_id = omega (arith, first.next_id, second.next_id);
    }

-- Only actors, and the next id, have changed.
list_keeps :
    (draws next_id : ℕ) (w : World) (actors : List Actor) → w.next_id ≤ next_id →
    StepKeeps draws w (record w { actors = actors; next_id = next_id })
list_keeps draws next_id w actors later =
    record {
      tick = refl;
      seed = refl;
      pace = refl;
      gone = refl;
      cash = same_cash w.cash;
      ore = same_ore w.ore;
      drawn_least = omega arith;
      drawn_most = omega arith;
      next_id = later;
    }

-- The next id after a build.
came_next :
    (setup : Setup) (actors : List Actor) (next_id : ℕ) (a : Actor) (build : Build)
    (rest : List Build) (d : ℕ) (to : Option CPos) →
    next_id ≤ (came_out setup actors next_id a build rest d to).next_id
came_next setup actors next_id a build rest d None = omega arith
came_next setup actors next_id a build rest d (Some p) = omega arith

finished_next :
    (setup : Setup) (actors : List Actor) (next_id : ℕ) (a : Actor) (build : Build)
    (rest : List Build) (exit : Option ℕ) →
    next_id ≤ (finished setup actors next_id a build rest exit).next_id
finished_next setup actors next_id a build rest None = omega arith
finished_next setup actors next_id a build rest (Some d) =
    came_next setup actors next_id a build rest d
    (neighbour_of setup.map.width setup.map.height a.cell d)

built_by_next :
    (done : Bool) (setup : Setup) (actors : List Actor) (next_id : ℕ) (a : Actor) (build : Build)
    (rest : List Build) →
    next_id ≤ (
    if done
    then finished setup actors next_id a build rest
    (exit_of setup actors (kind_of setup.rules build.kind) a.cell)
    else record {
      actors = changed_at actors a.id (with_builds (record build { left = build.left - 1 } ∷ rest));
      next_id = next_id;
    }).next_id
built_by_next true setup actors next_id a build rest =
    finished_next setup actors next_id a build rest
    (exit_of setup actors (kind_of setup.rules build.kind) a.cell)
built_by_next false setup actors next_id a build rest = omega arith

built_next :
    (setup : Setup) (actors : List Actor) (next_id : ℕ) (a : Actor) (builds : List Build) →
    next_id ≤ (built_first setup actors next_id a builds).next_id
built_next setup actors next_id a [] = omega arith
built_next setup actors next_id a (build ∷ rest) =
    built_by_next ((build.left - 1 == 0) && has_room actors next_id) setup actors next_id a build
    rest

build_next :
    (setup : Setup) (actors : List Actor) (next_id : ℕ) (a : Actor) →
    next_id ≤ (after_build setup actors next_id a).next_id
unfolding after_build
build_next setup actors next_id a = built_next setup actors next_id a a.body.builds

-- At most one word is drawn in an attack, and none is put back.
pub record DrawsOnce (before : ℕ) (after : Fought) : Type 0 where
  pub least : before ≤ after.dice.drawn
  pub most : after.dice.drawn ≤ before + 1

range_draws :
    (near loaded can : Bool) (setup : Setup) (built : Grid Bool) (dice : Place)
    (actors : List Actor) (a target : Actor) (kind : Kind) (waits : ℕ) →
    DrawsOnce dice.drawn (
    if near
    then (
    if loaded
    then record {
      actors =
          changed_at (changed_at actors target.id (hit_by (points_of kind dice))) a.id
          (reloading kind);
      dice = after_word dice;
    }
    else record { actors = actors; dice = dice }
    )
    else (
    if can
    then record {
      actors = gone_towards setup built actors a target.cell waits (Attack target.id);
      dice = dice;
    }
    else record { actors = changed_at actors a.id popped; dice = dice }
    ))
range_draws true true can setup built dice actors a target kind waits =
    record { least = omega arith; most = omega arith }
range_draws true false can setup built dice actors a target kind waits =
    record { least = omega arith; most = omega arith }
range_draws false loaded true setup built dice actors a target kind waits =
    record { least = omega arith; most = omega arith }
range_draws false loaded false setup built dice actors a target kind waits =
    record { least = omega arith; most = omega arith }

fought_draws :
    (setup : Setup) (built : Grid Bool) (dice : Place) (actors : List Actor) (a : Actor)
    (kind : Kind) (waits : ℕ) (found : Option Actor) →
    DrawsOnce dice.drawn (fought_with setup built dice actors a kind waits found)
fought_draws setup built dice actors a kind waits None =
    record { least = omega arith; most = omega arith }
fought_draws setup built dice actors a kind waits (Some target) =
    range_draws (is_in_range kind a target) (a.body.reload == 0) (moves kind) setup built dice
    actors a target kind waits

attack_draws :
    (setup : Setup) (built : Grid Bool) (dice : Place) (actors : List Actor) (a : Actor)
    (target waits : ℕ) →
    DrawsOnce dice.drawn (after_attack setup built dice actors a target waits)
unfolding after_attack
attack_draws setup built dice actors a target waits =
    fought_draws setup built dice actors a (kind_of setup.rules a.kind) waits
    (living_of actors target)

harvested_keeps :
    (w : World) (after : Harvested) → HarvestKeeps (harvest_of w) after →
    StepKeeps 1 w (with_harvested w after)
harvested_keeps w after keeps =
    record {
      tick = refl;
      seed = refl;
      pace = refl;
      gone = refl;
      cash = keeps.cash;
      ore = keeps.ore;
      drawn_least = omega arith;
      drawn_most = omega arith;
      next_id = omega arith;
    }

fought_keeps :
    (w : World) (after : Fought) → DrawsOnce w.drawn after → StepKeeps 1 w (with_fought w after)
fought_keeps w after draws =
    record {
      tick = refl;
      seed = refl;
      pace = refl;
      gone = refl;
      cash = same_cash w.cash;
      ore = same_ore w.ore;
      drawn_least = draws.least;
      drawn_most = draws.most;
      next_id = omega arith;
    }

activity_keeps :
    (setup : Setup) (w : World) (a : Actor) (activity : Activity) →
    StepKeeps 1 w (after_activity setup w a activity)
activity_keeps setup w a (Move goal waits) =
    list_keeps 1 w.next_id w (after_move setup (blocks_of setup w.actors) w.actors a goal waits)
    (omega arith)
activity_keeps setup w a (Attack target waits) =
    fought_keeps w
    (after_attack setup (blocks_of setup w.actors) (dice_of w) w.actors a target waits)
    (attack_draws setup (blocks_of setup w.actors) (dice_of w) w.actors a target waits)
activity_keeps setup w a (Harvest cell timer waits) =
    harvested_keeps w
    (after_harvest setup (blocks_of setup w.actors) (harvest_of w) a cell timer waits)
    (harvest_keeps setup (blocks_of setup w.actors) (harvest_of w) a cell timer waits)
activity_keeps setup w a (Deliver home timer waits) =
    harvested_keeps w
    (after_deliver setup (blocks_of setup w.actors) (harvest_of w) a home timer waits)
    (deliver_keeps setup (blocks_of setup w.actors) (harvest_of w) a home timer waits)

first_keeps :
    (setup : Setup) (w : World) (a : Actor) (acts : List Activity) →
    StepKeeps 1 w (after_first setup w a acts)
first_keeps setup w a [] = list_keeps 1 w.next_id w w.actors (omega arith)
first_keeps setup w a (activity ∷ later) = activity_keeps setup w a activity

leg_keeps :
    (setup : Setup) (w : World) (a : Actor) (leg : Option Leg) →
    StepKeeps 1 w (after_way setup w a leg)
leg_keeps setup w a (Some leg) =
    list_keeps 1 w.next_id w (after_leg setup.rules w.actors a.id) (omega arith)
leg_keeps setup w a None = first_keeps setup w a a.body.acts

way_keeps :
    (setup : Setup) (w : World) (found : Option Actor) → StepKeeps 1 w (with_way setup w found)
way_keeps setup w None = list_keeps 1 w.next_id w w.actors (omega arith)
way_keeps setup w (Some a) = leg_keeps setup w a a.body.leg

build_keeps :
    (setup : Setup) (w : World) (found : Option Actor) → StepKeeps 0 w (with_build setup w found)
build_keeps setup w None = list_keeps 0 w.next_id w w.actors (omega arith)
build_keeps setup w (Some a) =
    list_keeps 0 (after_build setup w.actors w.next_id a).next_id w
    (after_build setup w.actors w.next_id a).actors (build_next setup w.actors w.next_id a)

step_if_keeps :
    (setup : Setup) (w : World) (id : ℕ) (found : Option Actor) →
    StepKeeps 1 w (step_if setup w id found)
step_if_keeps setup w id None = list_keeps 1 w.next_id w w.actors (omega arith)
step_if_keeps setup w id (Some a) =
    let reloaded : World = with_reload w id in
    let built : World = with_build setup reloaded (living_of reloaded.actors id) in
    step_then 0 1 w built (with_way setup built (living_of built.actors id))
    (step_then 0 0 w reloaded built
    (list_keeps 0 w.next_id w reloaded.actors (omega arith))
    (build_keeps setup reloaded (living_of reloaded.actors id)))
    (way_keeps setup built (living_of built.actors id))

pub step_keeps : (setup : Setup) (w : World) (id : ℕ) → StepKeeps 1 w (after_step setup w id)
unfolding after_step
step_keeps setup w id = step_if_keeps setup w id (living_of w.actors id)

-- Who lives no more makes no step.
step_of_none :
    (setup : Setup) (w : World) (id : ℕ) (found : Option Actor) → found ≡ None →
    step_if setup w id found ≡ w
step_of_none setup w id None none = refl
step_of_none setup w id (Some a) none = absurd cc

pub dead_stay :
    (setup : Setup) (w : World) (id : ℕ) → living_of w.actors id ≡ None → after_step setup w id ≡ w
unfolding after_step
dead_stay setup w id none = step_of_none setup w id (living_of w.actors id) none

pub steps_keep :
    (setup : Setup) (w : World) (ids : List ℕ) → StepKeeps (length ids) w (after_steps setup w ids)
steps_keep setup w [] = list_keeps 0 w.next_id w w.actors (omega arith)
steps_keep setup w (id ∷ ids) =
    subst (λ n. StepKeeps n w (after_steps setup (after_step setup w id) ids)) (omega arith)
    (step_then 1 (length ids) w (after_step setup w id)
    (after_steps setup (after_step setup w id) ids)
    (step_keeps setup w id) (steps_keep setup (after_step setup w id) ids))

pub turn_ore : (setup : Setup) (w : World) → HasNoMoreOre w.ore (after_turn setup w).ore
unfolding after_turn
turn_ore setup w = (steps_keep setup w (ids_of w.actors)).ore
