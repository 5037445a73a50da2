-- Worlds whose numbers fit the fields that they have among the hashed bytes.
use Rattle.std.specs.Prelude.{◌≡◌, ◌<◌, ◌^◌, ◌*◌, length, Option, Some, None}
use Rattle.std.specs.List.{All, AllByRecursion}
use Rattle.activities.specs.declared.activity.Activity.{Activity}
use Rattle.activities.specs.declared.activity.Activity.TheVariants.{Move, Attack, Harvest, Deliver}
use Rattle.game_model.specs.declared.actor.Actor.{Actor}
use Rattle.game_model.specs.declared.actor.Leg.{Leg}
use Rattle.game_model.specs.declared.builds.Build.{Build}
use Rattle.game_model.specs.declared.world.World.{World}

-- Each number of a leg fits its field.
abbrev pub LegFits : Option Leg → Type 0
LegFits None = Unit
LegFits (Some leg) = leg.progress < 2 ^ 32

-- Each number of an activity fits its field.
abbrev pub ActivityFits : Activity → Type 0
ActivityFits (Move goal waits) = Unit
ActivityFits (Attack target waits) = target < 2 ^ 32
ActivityFits (Harvest cell timer waits) = timer < 2 ^ 16
ActivityFits (Deliver home timer waits) = timer < 2 ^ 16

-- Each number of a build fits its field.
pub record BuildFits (b : Build) : Type 0 where
  pub kind : b.kind < 2 ^ 16
  pub turns : b.left < 2 ^ 16

-- Each number of an actor fits its field.
pub record ActorFits (a : Actor) : Type 0 where
  pub id : a.id < 2 ^ 32
  pub kind : a.kind < 2 ^ 16
  pub facing : a.body.facing < 2 ^ 16
  pub leg : LegFits a.body.leg
  pub health : a.body.health < 2 ^ 32
  pub load : a.body.load < 2 ^ 16
  pub reload : a.body.reload < 2 ^ 16
  pub acts : All ActivityFits a.body.acts
  pub builds : All BuildFits a.body.builds

-- Each number fits its field, and each client has a departure flag. The number of actors fits its
-- own.
pub record FitsFields (w : World) : Type 0 where
  pub tick : w.tick < 2 ^ 32
  pub seed : w.seed < 2 ^ 32
  pub drawn : w.drawn < 2 ^ 64
  pub next_id : w.next_id < 2 ^ 32
  pub cash : AllByRecursion (λ amount. amount < 2 ^ 32) w.cash
  pub flags : length w.gone ≡ length w.cash
  pub actor_count : length w.actors < 2 ^ 32
  pub actors : All ActorFits w.actors
  pub cells : length w.ore.cells ≡ w.ore.width * w.ore.height
