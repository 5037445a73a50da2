-- Proofs of what the step of an actor makes of the list of all actors.
use Rattle.std.specs.Prelude.{◌≡◌, ℕ, List, [], ◌∷◌, map, Option, Some, None, refl}
use Rattle.std.specs.List.{All}
use Rattle.std.proofs.Common.{subst}
use Rattle.std.proofs.lemmas.List.Elements.{All-head}
use Rattle.activities.specs.declared.activity.Activity.{Activity}
use Rattle.activities.specs.declared.activity.Activity.TheVariants.{Move, Attack, Harvest, Deliver}
use Rattle.game_model.specs.declared.actor.Actor.{Actor}
use Rattle.game_model.specs.declared.actor.Leg.{Leg}
use Rattle.game_model.specs.declared.world.World.{World}
use Rattle.game_model.specs.Setup.{Setup}
use Rattle.game_model.specs.ValidMap.{IsMapFor}
use Rattle.game_model.specs.ValidWorld.{IsActivityOf}
use Rattle.game_model.specs.World.{clients_of, living_of}
use Rattle.game_model.specs.Kinds.{kind_of}
use Rattle.game_tick.specs.MidTurn.{IsMidTurn}
use Rattle.game_tick.specs.StepKeeps.{ActorsKeep}
use Rattle.game_tick.specs.Turn.{after_activity, after_first, after_step, after_way, blocks_of}
use Rattle.game_tick.specs.Turn.{dice_of, harvest_of, reloaded, step_if, with_build, with_reload}
use Rattle.game_tick.specs.Turn.{with_way}
use Rattle.game_tick.proofs.ActorAttackLemmas.{attack_keeps}
use Rattle.game_tick.proofs.ActorBuildLemmas.{no_more, more_then_all, build_keeps, all_then_more}
use Rattle.game_tick.proofs.ActorHarvestLemmas.{harvest_keeps, deliver_keeps}
use Rattle.game_tick.proofs.ActorKeepsLemmas.{own_keeps, AllKeep, leg_keeps, CanStep, same_list}
use Rattle.game_tick.proofs.ActorMovesLemmas.{move_keeps}
use Rattle.game_tick.proofs.ChangesLemmas.{id_of_living}
use Rattle.game_tick.proofs.SoundLemmas.{body_of}
use Rattle.game_tick.proofs.TurnLemmas.{build_mid, living_steps, reload_mid}

-- The parts of a step.
activity_keeps :
    (setup : Setup) (w : World) (a : Actor) (activity : Activity) →
    CanStep setup (clients_of w) w.next_id w.actors a →
    IsActivityOf setup.map (kind_of setup.rules a.kind) activity →
    AllKeep setup.rules a.id w.actors (after_activity setup w a activity).actors
activity_keeps setup w a (Move goal waits) can fits =
    move_keeps setup (blocks_of setup w.actors) (clients_of w) w.next_id w.actors a goal waits can
    fits
activity_keeps setup w a (Attack target waits) can fits =
    attack_keeps setup (blocks_of setup w.actors) (clients_of w) w.next_id (dice_of w) w.actors a
    target waits can fits
activity_keeps setup w a (Harvest cell timer waits) can fits =
    harvest_keeps setup (blocks_of setup w.actors) (clients_of w) w.next_id (harvest_of w) a cell
    timer waits can fits
activity_keeps setup w a (Deliver home timer waits) can fits =
    deliver_keeps setup (blocks_of setup w.actors) (clients_of w) w.next_id (harvest_of w) a home
    timer waits can fits

acts_keep :
    (setup : Setup) (w : World) (a : Actor) (acts : List Activity) →
    CanStep setup (clients_of w) w.next_id w.actors a →
    All (IsActivityOf setup.map (kind_of setup.rules a.kind)) acts →
    AllKeep setup.rules a.id w.actors (after_first setup w a acts).actors
acts_keep setup w a [] can all = same_list setup.rules a.id w.actors
acts_keep setup w a (activity ∷ later) can all =
    activity_keeps setup w a activity can
    (All-head (IsActivityOf setup.map (kind_of setup.rules a.kind)) activity later all)

leg_or_acts :
    (setup : Setup) (w : World) (a : Actor) (leg : Option Leg) →
    CanStep setup (clients_of w) w.next_id w.actors a →
    AllKeep setup.rules a.id w.actors (after_way setup w a leg).actors
leg_or_acts setup w a (Some leg) can = leg_keeps setup.rules w.actors a can.steps.only
leg_or_acts setup w a None can =
    acts_keep setup w a a.body.acts can
    (body_of setup (clients_of w) w.next_id a can.steps.sound).acts

pub way_keeps :
    (setup : Setup) (least most draws : ℕ) (w : World) (id : ℕ) (found : Option Actor) →
    living_of w.actors id ≡ found → IsMapFor setup.rules setup.map →
    IsMidTurn setup least most draws w →
    AllKeep setup.rules id w.actors (with_way setup w found).actors
way_keeps setup least most draws w id None found map mid = same_list setup.rules id w.actors
way_keeps setup least most draws w id (Some a) found map mid =
    subst (λ i. AllKeep setup.rules i w.actors (with_way setup w (Some a)).actors)
    (id_of_living w.actors id a found)
    (leg_or_acts setup w a a.body.leg
    (record { map = map; steps = living_steps setup least most draws w id a mid found }))

pub with_build_keeps :
    (setup : Setup) (least most draws : ℕ) (w : World) (id : ℕ) (found : Option Actor) →
    living_of w.actors id ≡ found → IsMidTurn setup least most draws w →
    ActorsKeep setup.rules id w.next_id w.actors (with_build setup w found).actors
with_build_keeps setup least most draws w id None found mid =
    no_more setup.rules id w.next_id w.actors w.actors (same_list setup.rules id w.actors)
with_build_keeps setup least most draws w id (Some a) found mid =
    let steps = living_steps setup least most draws w id a mid found in
    subst (λ i. ActorsKeep setup.rules i w.next_id w.actors (with_build setup w (Some a)).actors)
    (id_of_living w.actors id a found)
    (build_keeps setup w.actors w.next_id a steps.only
    (body_of setup (clients_of w) w.next_id a steps.sound).builds)

pub reload_keeps :
    (setup : Setup) (least most draws : ℕ) (w : World) (id : ℕ) (a : Actor) →
    living_of w.actors id ≡ Some a → IsMidTurn setup least most draws w →
    AllKeep setup.rules id w.actors (with_reload w id).actors
reload_keeps setup least most draws w id a found mid =
    let steps = living_steps setup least most draws w id a mid found in
    subst (λ i. AllKeep setup.rules i w.actors (with_reload w i).actors)
    (id_of_living w.actors id a found)
    (own_keeps setup.rules w.actors a reloaded (reloaded a).body steps.only refl refl refl)

step_if_keeps :
    (setup : Setup) (least most draws : ℕ) (w : World) (id : ℕ) (found : Option Actor) →
    living_of w.actors id ≡ found → IsMapFor setup.rules setup.map →
    IsMidTurn setup least most draws w →
    ActorsKeep setup.rules id w.next_id w.actors (step_if setup w id found).actors
step_if_keeps setup least most draws w id None found map mid =
    no_more setup.rules id w.next_id w.actors w.actors (same_list setup.rules id w.actors)
step_if_keeps setup least most draws w id (Some a) found map mid =
    let reloaded : World = with_reload w id in
    let built : World = with_build setup reloaded (living_of reloaded.actors id) in
    let ready = reload_mid setup least most draws w id a mid found in
    let done =
    build_mid setup least most draws reloaded id (living_of reloaded.actors id) refl ready in
    more_then_all setup.rules id w.next_id w.actors built.actors
    (with_way setup built (living_of built.actors id)).actors
    (all_then_more setup.rules id w.next_id w.actors reloaded.actors built.actors
    (reload_keeps setup least most draws w id a found mid)
    (with_build_keeps setup least most draws reloaded id (living_of reloaded.actors id) refl ready))
    (way_keeps setup least most draws built id (living_of built.actors id) refl map done)

-- What a step makes of the list of all actors.
pub step_actors :
    (setup : Setup) (least most draws : ℕ) (w : World) (id : ℕ) → IsMapFor setup.rules setup.map →
    IsMidTurn setup least most draws w →
    ActorsKeep setup.rules id w.next_id w.actors (after_step setup w id).actors
unfolding after_step
step_actors setup least most draws w id map mid =
    step_if_keeps setup least most draws w id (living_of w.actors id) refl map mid
