-- The numbers of a world are those that code holds: below 2^64.
use Rattle.std.specs.Prelude.{◌≡◌, ◌<◌, ◌^◌, ◌*◌, ℕ, length, Option, Some, None}
use Rattle.std.specs.List.{All}
use Rattle.world_units.specs.declared.cell.CPos.{CPos}
use Rattle.activities.specs.declared.activity.Activity.{Activity}
use Rattle.activities.specs.declared.activity.Activity.TheVariants.{Move, Attack, Harvest, Deliver}
use Rattle.game_model.specs.declared.actor.Actor.{Actor}
use Rattle.game_model.specs.declared.actor.Leg.{Leg}
use Rattle.game_model.specs.declared.builds.Build.{Build}
use Rattle.game_model.specs.declared.world.World.{World}

abbrev pub IsHeld : ℕ → Type 0
IsHeld number = number < 2 ^ 64

pub record IsCellHeld (p : CPos) : Type 0 where
  pub column : IsHeld p.x
  pub row : IsHeld p.y

abbrev pub IsLegHeld : Option Leg → Type 0
IsLegHeld None = Unit {0}
IsLegHeld (Some leg) = IsHeld leg.dir × IsHeld leg.progress

abbrev pub IsActivityHeld : Activity → Type 0
IsActivityHeld (Move goal waits) = IsCellHeld goal × IsHeld waits
IsActivityHeld (Attack target waits) = IsHeld target × IsHeld waits
IsActivityHeld (Harvest cell timer waits) = IsCellHeld cell × IsHeld timer × IsHeld waits
IsActivityHeld (Deliver home timer waits) = IsCellHeld home × IsHeld timer × IsHeld waits

pub record IsBuildHeld (b : Build) : Type 0 where
  pub kind : IsHeld b.kind
  pub turns : IsHeld b.left

pub record IsActorHeld (a : Actor) : Type 0 where
  pub id : IsHeld a.id
  pub kind : IsHeld a.kind
  pub owner : IsHeld a.body.owner
  pub cell : IsCellHeld a.cell
  pub facing : IsHeld a.body.facing
  pub leg : IsLegHeld a.body.leg
  pub health : IsHeld a.body.health
  pub load : IsHeld a.body.load
  pub reload : IsHeld a.body.reload
  pub acts : All IsActivityHeld a.body.acts
  pub builds : All IsBuildHeld a.body.builds

-- Each number is held, and the ore has a number for each cell of its size.
pub record IsWorldHeld (w : World) : Type 0 where
  pub tick : IsHeld w.tick
  pub seed : IsHeld w.seed
  pub drawn : IsHeld w.drawn
  pub next_id : IsHeld w.next_id
  pub pace : IsHeld w.pace
  pub cash : All IsHeld w.cash
  pub actors : All IsActorHeld w.actors
  pub ore : All IsHeld w.ore.cells
  pub few : IsHeld (length w.ore.cells)
  pub cells : length w.ore.cells ≡ w.ore.width * w.ore.height
