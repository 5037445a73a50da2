-- Valid worlds: every bound that holds of a world after so many frames.
use Rattle.std.specs.Prelude.{◌≡◌, ◌≢◌, ◌<◌, ◌≤◌, ◌*◌, max, ℕ, true, List, length, is_some, IfSome}
use Rattle.std.specs.List.{All, AllPairs}
use Rattle.std.specs.Option.{IsSomeAnd}
use Rattle.world_units.specs.declared.angle.TheConstants.{FULL_TURN}
use Rattle.world_units.specs.declared.direction.TheConstants.{DIRECTIONS}
use Rattle.world_units.specs.declared.cell.CPos.{CPos}
use Rattle.world_units.specs.Directions.{leg_length_of}
use Rattle.activities.specs.declared.activity.Activity.{Activity}
use Rattle.activities.specs.declared.activity.Activity.TheVariants.{Move, Attack, Harvest, Deliver}
use Rattle.activities.specs.declared.queue.TheConstants.{MAX_ACTIVITIES}
use Rattle.rule_traits.specs.declared.kind.Kind.{Kind}
use Rattle.rule_traits.specs.Rules.{kind_at, hp_of, moves}
use Rattle.game_orders.specs.declared.limits.TheConstants.{MAX_FRAMES}
use Rattle.game_model.specs.declared.actor.Actor.{Actor}
use Rattle.game_model.specs.declared.actor.Body.{Body}
use Rattle.game_model.specs.declared.actor.Leg.{Leg}
use Rattle.game_model.specs.declared.builds.Build.{Build}
use Rattle.game_model.specs.declared.limits.TheConstants.{MAX_ACTORS, MAX_BUILDS, MAX_CASH}
use Rattle.game_model.specs.declared.limits.TheConstants.{MAX_DRAWS, MAX_PACE, MAX_WAITS}
use Rattle.game_model.specs.declared.map.Map.{Map}
use Rattle.game_model.specs.declared.world.World.{World}
use Rattle.game_model.specs.Grid.{IsOn}
use Rattle.game_model.specs.Setup.{Setup}
use Rattle.game_model.specs.ValidMap.{IsOreOf, IsOwner}
use Rattle.game_model.specs.World.{HasClients, clients_of}
use Rattle.game_model.specs.Kinds.{capacity_in, load_delay_in, unload_delay_in, reload_in}
use Rattle.game_model.specs.Kinds.{duration_in, gathers, is_unit}

-- A pace within its limits.
pub record IsPace (pace : ℕ) : Type 0 where
  pub least : 1 ≤ pace
  pub most : pace ≤ MAX_PACE

-- The leg of an actor of the kind.
pub record IsLegOf (kind : Kind) (leg : Leg) : Type 0 where
  pub moves : moves kind ≡ true
  pub direction : leg.dir < DIRECTIONS
  pub progress : leg.progress < leg_length_of leg.dir

-- A cell of the map to which an actor goes, and how many steps in a row it has waited.
pub record IsWayTo (map : Map) (cell : CPos) (waits : ℕ) : Type 0 where
  pub on_map : IsOn map.width map.height cell
  pub patience : waits < MAX_WAITS

-- The activity is one that an actor of the kind can have.
abbrev pub IsActivityOf : Map → Kind → Activity → Type 0
IsActivityOf map kind (Move goal waits) = (moves kind ≡ true) × IsWayTo map goal waits
IsActivityOf map kind (Attack target waits) =
    (is_some kind.armament ≡ true) × (waits < MAX_WAITS)
IsActivityOf map kind (Harvest cell timer waits) =
    (gathers kind ≡ true) × IsWayTo map cell waits × (timer < max 1 (load_delay_in kind.harvester))
IsActivityOf map kind (Deliver home timer waits) =
    (gathers kind ≡ true) × IsWayTo map home waits
    × (timer < max 1 (unload_delay_in kind.harvester))

-- A unit of the kind, with so many turns left.
pub record IsUnderWay (left : ℕ) (product : Kind) : Type 0 where
  pub unit : is_unit product ≡ true
  pub rest : left ≤ duration_in product.buildable

-- The build is one that an actor of the kind can have.
pub record IsBuildOf (rules : List Kind) (kind : Kind) (build : Build) : Type 0 where
  pub producer : is_some kind.production ≡ true
  pub product : IsSomeAnd (kind_at rules build.kind) (IsUnderWay build.left)

-- The body is one that an actor of the kind can have, whatever its owner, facing and health.
pub record IsBodyOf (setup : Setup) (kind : Kind) (body : Body) : Type 0 where
  pub leg : IfSome body.leg (IsLegOf kind)
  pub load : body.load ≤ capacity_in kind.harvester
  pub reload : body.reload ≤ reload_in kind.armament
  pub act_count : length body.acts ≤ MAX_ACTIVITIES
  pub acts : All (IsActivityOf setup.map kind) body.acts
  pub build_count : length body.builds ≤ MAX_BUILDS
  pub builds : All (IsBuildOf setup.rules kind) body.builds

-- All that a valid world says of one actor but its health.
pub record IsSoundActor (setup : Setup) (clients next_id : ℕ) (a : Actor) : Type 0 where
  pub least_id : 1 ≤ a.id
  pub most_id : a.id < next_id
  pub owner : IsOwner clients a.body.owner
  pub cell : IsOn setup.map.width setup.map.height a.cell
  pub facing : a.body.facing < FULL_TURN
  pub body : IsSomeAnd (kind_at setup.rules a.kind) (λ kind. IsBodyOf setup kind a.body)

-- Health from 1 to the kind's hit points.
pub record IsHealthOf (health : ℕ) (kind : Kind) : Type 0 where
  pub least : 1 ≤ health
  pub most : health ≤ hp_of kind

abbrev pub IsHealthy : List Kind → Actor → Type 0
IsHealthy rules a = IsSomeAnd (kind_at rules a.kind) (IsHealthOf a.body.health)

-- What a valid world says of one actor.
pub record IsValidActor (setup : Setup) (clients next_id : ℕ) (a : Actor) : Type 0 where
  pub sound : IsSoundActor setup clients next_id a
  pub health : IsHealthy setup.rules a

-- What steps of actors ask: all that a valid world says of its actors and of the next id but the
-- actors' health. Ids rise, and no two actors have one cell.
pub record StepReady (setup : Setup) (clients next_id : ℕ) (actors : List Actor) : Type 0 where
  pub each : All (IsSoundActor setup clients next_id) actors
  pub rise : AllPairs (λ (a b : Actor). a.id < b.id) actors
  pub apart : AllPairs (λ (a b : Actor). a.cell ≢ b.cell) actors
  pub count : length actors ≤ MAX_ACTORS
  pub next : 1 ≤ next_id

-- A world with a tick within two bounds, and at most so many draws.
pub record IsWorldWithin (setup : Setup) (least most draws : ℕ) (w : World) : Type 0 where
  pub ore : IsOreOf setup.map.width setup.map.height w.ore
  pub least_tick : least ≤ w.tick
  pub most_tick : w.tick ≤ most
  pub drawn : w.drawn ≤ draws
  pub pace : IsPace w.pace
  pub clients : HasClients w
  pub cash : All (λ cash. cash ≤ MAX_CASH) w.cash
  pub actors : StepReady setup (clients_of w) w.next_id w.actors
  pub health : All (IsHealthy setup.rules) w.actors

-- A valid world after so many frames. Each runs 1 to `MAX_PACE` turns, and each turn draws at most
-- once for each actor.
abbrev pub IsValidWorld : Setup → (frames : ℕ) → World → Type 0
IsValidWorld setup frames w =
    IsWorldWithin setup frames (MAX_PACE * frames) (MAX_DRAWS * frames) w

-- A valid world of a match, which has at most `MAX_FRAMES` frames: one that can be saved.
pub record IsSavedWorld (setup : Setup) (frames : ℕ) (w : World) : Type 0 where
  pub count : frames ≤ MAX_FRAMES
  pub valid : IsValidWorld setup frames w
