-- Proofs that a step draws one random word for its shot, and none without a shot.
use Rattle.std.specs.Prelude.{◌≡◌, ℕ, ◌+◌, ◌==◌, ◌&&◌, if◌then◌else◌, Bool, true, false, List, []}
use Rattle.std.specs.Prelude.{◌∷◌, Option, Some, None, refl}
use Rattle.std.proofs.Common.{◌∙◌, ap, arith}
use Rattle.twister.specs.Place.{Place, after_word}
use Rattle.activities.specs.declared.activity.Activity.{Activity}
use Rattle.activities.specs.declared.activity.Activity.TheVariants.{Move, Attack, Harvest, Deliver}
use Rattle.rule_traits.specs.declared.kind.Kind.{Kind}
use Rattle.rule_traits.specs.Rules.{moves}
use Rattle.game_model.specs.declared.actor.Actor.{Actor}
use Rattle.game_model.specs.declared.actor.Leg.{Leg}
use Rattle.game_model.specs.declared.world.World.{World}
use Rattle.game_model.specs.ActorChanges.{changed_at}
use Rattle.game_model.specs.Grid.{Grid}
use Rattle.game_model.specs.Setup.{Setup}
use Rattle.game_model.specs.World.{living_of}
use Rattle.game_model.specs.Kinds.{kind_of}
use Rattle.game_tick.specs.Acts.{popped}
use Rattle.game_tick.specs.Attacking.{Fought, after_attack, fought_with, hit_by, is_in_range}
use Rattle.game_tick.specs.Attacking.{points_of, reloading}
use Rattle.game_tick.specs.Moving.{gone_towards}
use Rattle.game_tick.specs.Shots.{fires_at, fires_by, fires_first, fires_if, fires_in, fires_off}
use Rattle.game_tick.specs.Shots.{shots_of}
use Rattle.game_tick.specs.Turn.{after_activity, after_first, after_step, after_way, blocks_of}
use Rattle.game_tick.specs.Turn.{dice_of, step_if, with_build, with_reload, with_way}

-- The words drawn after an attack.
abbrev drawn_after : Fought → ℕ
drawn_after fought = fought.dice.drawn

range_shots :
    (near loaded able : Bool) (setup : Setup) (built : Grid Bool) (dice : Place)
    (actors : List Actor) (a target : Actor) (kind : Kind) (waits : ℕ) →
    drawn_after (
    if near
    then (
    if loaded
    then record {
      actors =
          changed_at (changed_at actors target.id (hit_by (points_of kind dice))) a.id
          (reloading kind);
      dice = after_word dice;
    }
    else record { actors = actors; dice = dice }
    )
    else (
    if able
    then record {
      actors = gone_towards setup built actors a target.cell waits (Attack target.id);
      dice = dice;
    }
    else record { actors = changed_at actors a.id popped; dice = dice }
    )) ≡ dice.drawn + (if near && loaded then 1 else 0)
range_shots true true able setup built dice actors a target kind waits = omega arith
range_shots true false able setup built dice actors a target kind waits = omega arith
range_shots false loaded true setup built dice actors a target kind waits = omega arith
range_shots false loaded false setup built dice actors a target kind waits = omega arith

fought_shots :
    (setup : Setup) (built : Grid Bool) (dice : Place) (actors : List Actor) (a : Actor) (waits : ℕ)
    (found : Option Actor) →
    drawn_after (fought_with setup built dice actors a (kind_of setup.rules a.kind) waits found)
    ≡ dice.drawn + (if fires_at setup.rules a found then 1 else 0)
fought_shots setup built dice actors a waits None = omega arith
fought_shots setup built dice actors a waits (Some target) =
    let kind : Kind = kind_of setup.rules a.kind in
    range_shots (is_in_range kind a target) (a.body.reload == 0) (moves kind) setup built dice
    actors a target kind waits

attack_shots :
    (setup : Setup) (built : Grid Bool) (dice : Place) (actors : List Actor) (a : Actor)
    (target waits : ℕ) →
    drawn_after (after_attack setup built dice actors a target waits)
    ≡ dice.drawn + (if fires_at setup.rules a (living_of actors target) then 1 else 0)
unfolding after_attack
attack_shots setup built dice actors a target waits =
    fought_shots setup built dice actors a waits (living_of actors target)

activity_shots :
    (setup : Setup) (w : World) (a : Actor) (activity : Activity) →
    (after_activity setup w a activity).drawn
    ≡ w.drawn + (if fires_by setup.rules w.actors a activity then 1 else 0)
activity_shots setup w a (Move goal waits) = omega arith
activity_shots setup w a (Attack target waits) =
    attack_shots setup (blocks_of setup w.actors) (dice_of w) w.actors a target waits
activity_shots setup w a (Harvest cell timer waits) = omega arith
activity_shots setup w a (Deliver home timer waits) = omega arith

first_shots :
    (setup : Setup) (w : World) (a : Actor) (acts : List Activity) →
    (after_first setup w a acts).drawn
    ≡ w.drawn + (if fires_first setup.rules w.actors a acts then 1 else 0)
first_shots setup w a [] = omega arith
first_shots setup w a (activity ∷ later) = activity_shots setup w a activity

leg_shots :
    (setup : Setup) (w : World) (a : Actor) (leg : Option Leg) →
    (after_way setup w a leg).drawn ≡ w.drawn
    + (if fires_off setup.rules w.actors a leg then 1 else 0)
leg_shots setup w a (Some leg) = omega arith
leg_shots setup w a None = first_shots setup w a a.body.acts

way_shots :
    (setup : Setup) (w : World) (found : Option Actor) →
    (with_way setup w found).drawn ≡ w.drawn
    + (if fires_in setup.rules w.actors found then 1 else 0)
way_shots setup w None = omega arith
way_shots setup w (Some a) = leg_shots setup w a a.body.leg

build_draws :
    (setup : Setup) (w : World) (found : Option Actor) → (with_build setup w found).drawn ≡ w.drawn
build_draws setup w None = refl
build_draws setup w (Some a) = refl

step_if_shots :
    (setup : Setup) (w : World) (id : ℕ) (found : Option Actor) →
    (step_if setup w id found).drawn ≡ w.drawn + (if fires_if setup w id found then 1 else 0)
step_if_shots setup w id None = omega arith
step_if_shots setup w id (Some a) =
    let reloaded : World = with_reload w id in
    let built : World = with_build setup reloaded (living_of reloaded.actors id) in
    way_shots setup built (living_of built.actors id)
    ∙ ap (λ n. n + (if fires_in setup.rules built.actors (living_of built.actors id) then 1 else 0))
    (build_draws setup reloaded (living_of reloaded.actors id))

-- A step draws as often as it fires.
pub step_shots :
    (setup : Setup) (w : World) (id : ℕ) →
    (after_step setup w id).drawn ≡ w.drawn + shots_of setup w id
unfolding after_step
step_shots setup w id = step_if_shots setup w id (living_of w.actors id)
