-- A turn: each actor makes its step, the dead are buried, and the turn is counted.
use Rattle.std.specs.Prelude.{ℕ, ◌+◌, ◌-◌, ◌*◌, List, [], ◌∷◌, Option, Some, None, filter, Bool}
use Rattle.std.specs.Prelude.{map, fold}
use Rattle.std.specs.List.{range_with_len}
use Rattle.activities.specs.declared.activity.Activity.{Activity}
use Rattle.activities.specs.declared.activity.Activity.TheVariants.{Move, Attack, Harvest, Deliver}
use Rattle.twister.specs.Place.{Place}
use Rattle.game_model.specs.declared.actor.Actor.{Actor}
use Rattle.game_model.specs.declared.actor.Leg.{Leg}
use Rattle.game_model.specs.declared.world.World.{World}
use Rattle.game_model.specs.ActorChanges.{changed_at}
use Rattle.game_model.specs.Buildings.{has_building}
use Rattle.game_model.specs.Grid.{Grid}
use Rattle.game_model.specs.Setup.{Setup}
use Rattle.game_model.specs.World.{ids_of, is_alive, living_of}
use Rattle.game_tick.specs.Attacking.{Fought, after_attack}
use Rattle.game_tick.specs.Building.{Built, after_build}
use Rattle.game_tick.specs.Harvesting.{Harvested, after_harvest, after_deliver}
use Rattle.game_tick.specs.Moving.{after_leg, after_move}
use Rattle.game_tick.specs.Nearest.{cell_of}

-- The cells on which a building of the list stands.
abbrev pub blocks_of : Setup → List Actor → Grid Bool
blocks_of setup actors =
    record {
      width = setup.map.width;
      height = setup.map.height;
      cells =
          map (λ place. has_building setup.rules actors (cell_of setup.map.width place))
          (range_with_len 0 (setup.map.width * setup.map.height));
    }

-- The world with the parts that a step has changed.
abbrev pub with_fought : World → Fought → World
with_fought w after = record w { actors = after.actors; drawn = after.dice.drawn }

abbrev pub with_harvested : World → Harvested → World
with_harvested w after =
    record w { actors = after.actors; ore = after.ore; cash = after.cash }

abbrev pub with_built : World → Built → World
with_built w after = record w { actors = after.actors; next_id = after.next_id }

-- What a harvester's step sees of a world.
abbrev pub harvest_of : World → Harvested
harvest_of w = record { actors = w.actors; ore = w.ore; cash = w.cash }

-- The dice of a world.
abbrev pub dice_of : World → Place
dice_of w = record { seed = w.seed; drawn = w.drawn }

-- The step of an activity of an actor.
abbrev pub after_activity : Setup → World → Actor → Activity → World
after_activity setup w a (Move goal waits) =
    record w { actors = after_move setup (blocks_of setup w.actors) w.actors a goal waits }
after_activity setup w a (Attack target waits) =
    with_fought w
    (after_attack setup (blocks_of setup w.actors) (dice_of w) w.actors a target waits)
after_activity setup w a (Harvest cell timer waits) =
    with_harvested w
    (after_harvest setup (blocks_of setup w.actors) (harvest_of w) a cell timer waits)
after_activity setup w a (Deliver home timer waits) =
    with_harvested w
    (after_deliver setup (blocks_of setup w.actors) (harvest_of w) a home timer waits)

-- The step of the first activity, if there is one.
abbrev pub after_first : Setup → World → Actor → List Activity → World
after_first setup w a [] = w
after_first setup w a (activity ∷ later) = after_activity setup w a activity

-- On a leg the actor goes on with it; else it does what it is to do.
abbrev pub after_way : Setup → World → Actor → Option Leg → World
after_way setup w a (Some leg) = record w { actors = after_leg setup.rules w.actors a.id }
after_way setup w a None = after_first setup w a a.body.acts

-- One turn less until it can fire again.
abbrev pub reloaded : Actor → Actor
reloaded a = record a { body = record a.body { reload = a.body.reload - 1 } }

-- The three parts of an actor's step: reloading; its first build; its leg or its first activity.
abbrev pub with_reload : World → (id : ℕ) → World
with_reload w id = record w { actors = changed_at w.actors id reloaded }

abbrev pub with_build : Setup → World → Option Actor → World
with_build setup w None = w
with_build setup w (Some a) = with_built w (after_build setup w.actors w.next_id a)

abbrev pub with_way : Setup → World → Option Actor → World
with_way setup w None = w
with_way setup w (Some a) = after_way setup w a a.body.leg

-- The step of the actor of an id: nothing where it lives no more.
abbrev pub step_if : Setup → World → (id : ℕ) → Option Actor → World
step_if setup w id None = w
step_if setup w id (Some a) =
    let reloaded = with_reload w id in
    let built = with_build setup reloaded (living_of reloaded.actors id) in
    with_way setup built (living_of built.actors id)

unfoldable pub after_step : Setup → World → (id : ℕ) → World
after_step setup w id = step_if setup w id (living_of w.actors id)

-- The steps of the actors of these ids, one after the other.
abbrev pub after_steps : Setup → World → List ℕ → World
after_steps setup w ids = fold (after_step setup) w ids

-- The burial: actors without health are removed.
abbrev pub buried : World → World
buried w = record w { actors = filter is_alive w.actors }

-- One turn: each actor that is there at its start makes its step, by rising id; then the burial,
-- and the turn is counted.
unfoldable pub after_turn : Setup → World → World
after_turn setup w =
    let stepped = after_steps setup w (ids_of w.actors) in
    record (buried stepped) { tick = stepped.tick + 1 }
