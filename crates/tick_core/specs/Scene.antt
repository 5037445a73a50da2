-- A world in which actors act, as the code holds it: its head, its actors in a table, its ore, the
-- cells on which buildings stand, the routes and the dice.
use Rattle.std.specs.Prelude.{◌≡◌, ℕ, Bool, [], Option, Some, None, slice_get}
use Rattle.activities.specs.declared.activity.Activity.{Activity}
use Rattle.activities.specs.declared.activity.Activity.TheVariants.{Move, Attack, Harvest, Deliver}
use Rattle.twister.specs.Place.{Place}
use Rattle.actor_table.specs.Table.{Table}
use Rattle.game_model.specs.declared.actor.Actor.{Actor}
use Rattle.game_model.specs.declared.world.World.{World}
use Rattle.game_model.specs.Grid.{Grid}
use Rattle.game_model.specs.Setup.{Setup}
use Rattle.game_model.specs.ValidMap.{IsSetup}
use Rattle.game_model.specs.World.{living_of}
use Rattle.game_tick.specs.MidTurn.{IsMidTurn}
use Rattle.game_tick.specs.Turn.{blocks_of, dice_of, with_build, with_reload}
use Rattle.grid_routes.specs.Routing.{Routing}
use Rattle.motion.specs.Ground.{SeesMap}

-- Within a turn: all that a valid world says, but that actors may have no health left.
abbrev pub IsActing : Setup → World → Type 0
IsActing setup w = IsMidTurn setup 0 w.tick w.drawn w

-- The parts are those of the world, and the router looks at its map and its blocks.
pub record IsScene (setup : Setup) (w : World) (table : Table) (built : Grid Bool) (router : Routing) (dice : Place)
    : Type 0 where
  pub stands : IsSetup setup
  pub acting : IsActing setup w
  pub fits : SeesMap setup.map built table router
  pub blocks : built ≡ blocks_of setup w.actors
  pub thrown : dice ≡ dice_of w

-- The world after the first two parts of the step of the actor of an id, if it lives: it has
-- reloaded, and its first build has gone on.
abbrev pub prepared_if : Setup → World → (id : ℕ) → Option Actor → World
prepared_if setup w id None = w
prepared_if setup w id (Some a) =
    let reloaded = with_reload w id in
    with_build setup reloaded (living_of reloaded.actors id)

abbrev pub prepared : Setup → World → (id : ℕ) → World
prepared setup w id = prepared_if setup w id (living_of w.actors id)

-- The actor can fire at once.
abbrev pub IsLoaded : Actor → Type 0
IsLoaded a = a.body.reload ≡ 0

abbrev pub HasNoBuilds : Actor → Type 0
HasNoBuilds a = a.body.builds ≡ []

-- The actor is on no leg, and this is the first that it is to do.
abbrev pub DoesFirst : Activity → Actor → Type 0
DoesFirst first a = (a.body.leg ≡ None) × (slice_get a.body.acts 0 ≡ Some first)

-- The activity is a Harvest or a Deliver.
abbrev pub IsGathering : Activity → Type 0
IsGathering (Move goal waits) = ⊥
IsGathering (Attack target waits) = ⊥
IsGathering (Harvest cell timer waits) = Unit {0}
IsGathering (Deliver home timer waits) = Unit {0}
