-- When an actor fires at its step.
use Rattle.std.specs.Prelude.{ℕ, ◌==◌, ◌&&◌, if◌then◌else◌, Bool, false, List, [], ◌∷◌, Option}
use Rattle.std.specs.Prelude.{Some, None}
use Rattle.activities.specs.declared.activity.Activity.{Activity}
use Rattle.activities.specs.declared.activity.Activity.TheVariants.{Move, Attack, Harvest, Deliver}
use Rattle.rule_traits.specs.declared.kind.Kind.{Kind}
use Rattle.game_model.specs.declared.actor.Actor.{Actor}
use Rattle.game_model.specs.declared.actor.Leg.{Leg}
use Rattle.game_model.specs.declared.world.World.{World}
use Rattle.game_model.specs.Setup.{Setup}
use Rattle.game_model.specs.World.{living_of}
use Rattle.game_model.specs.Kinds.{kind_of}
use Rattle.game_tick.specs.Attacking.{is_in_range}
use Rattle.game_tick.specs.Turn.{with_build, with_reload}

-- The target lives within range, and the actor is loaded.
abbrev pub fires_at : List Kind → Actor → Option Actor → Bool
fires_at rules a None = false
fires_at rules a (Some target) = is_in_range (kind_of rules a.kind) a target && (a.body.reload == 0)

-- The activity is an Attack of such a target.
abbrev pub fires_by : List Kind → List Actor → Actor → Activity → Bool
fires_by rules actors a (Move goal waits) = false
fires_by rules actors a (Attack target waits) = fires_at rules a (living_of actors target)
fires_by rules actors a (Harvest cell timer waits) = false
fires_by rules actors a (Deliver home timer waits) = false

-- The first activity is one.
abbrev pub fires_first : List Kind → List Actor → Actor → List Activity → Bool
fires_first rules actors a [] = false
fires_first rules actors a (activity ∷ later) = fires_by rules actors a activity

-- On a leg no actor fires.
abbrev pub fires_off : List Kind → List Actor → Actor → Option Leg → Bool
fires_off rules actors a (Some leg) = false
fires_off rules actors a None = fires_first rules actors a a.body.acts

abbrev pub fires_in : List Kind → List Actor → Option Actor → Bool
fires_in rules actors None = false
fires_in rules actors (Some a) = fires_off rules actors a a.body.leg

-- The actor reloads and builds before it fires.
abbrev pub fires_if : Setup → World → (id : ℕ) → Option Actor → Bool
fires_if setup w id None = false
fires_if setup w id (Some a) =
    let reloaded = with_reload w id in
    let built = with_build setup reloaded (living_of reloaded.actors id) in
    fires_in setup.rules built.actors (living_of built.actors id)

-- The living actor of an id fires at its step.
abbrev pub fires : Setup → World → (id : ℕ) → Bool
fires setup w id = fires_if setup w id (living_of w.actors id)

-- The shots of a step.
abbrev pub shots_of : Setup → World → (id : ℕ) → ℕ
shots_of setup w id = if fires setup w id then 1 else 0
