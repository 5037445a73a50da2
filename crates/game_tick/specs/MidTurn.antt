-- Worlds in mid-turn, between the steps of two actors.
use Rattle.std.specs.Prelude.{◌≤◌, ℕ, List, IsSomeAnd}
use Rattle.std.specs.List.{All}
use Rattle.rule_traits.specs.declared.kind.Kind.{Kind}
use Rattle.rule_traits.specs.Rules.{kind_at, hp_of}
use Rattle.game_model.specs.declared.actor.Actor.{Actor}
use Rattle.game_model.specs.declared.limits.TheConstants.{MAX_CASH}
use Rattle.game_model.specs.declared.world.World.{World}
use Rattle.game_model.specs.Setup.{Setup}
use Rattle.game_model.specs.ValidMap.{IsOreOf}
use Rattle.game_model.specs.ValidWorld.{IsPace, StepReady}
use Rattle.game_model.specs.World.{HasClients, clients_of}

-- The health is at most the kind's hit points. In mid-turn it may be 0.
abbrev pub IsHurt : List Kind → Actor → Type 0
IsHurt rules a = IsSomeAnd (kind_at rules a.kind) (λ kind. a.body.health ≤ hp_of kind)

-- Actors in mid-turn.
pub record AreSound (setup : Setup) (clients next_id : ℕ) (actors : List Actor) : Type 0 where
  pub ready : StepReady setup clients next_id actors
  pub hurt : All (IsHurt setup.rules) actors

-- All that a valid world says, but that actors may have no health left.
pub record IsMidTurn (setup : Setup) (least most draws : ℕ) (w : World) : Type 0 where
  pub ore : IsOreOf setup.map.width setup.map.height w.ore
  pub least_tick : least ≤ w.tick
  pub most_tick : w.tick ≤ most
  pub drawn : w.drawn ≤ draws
  pub pace : IsPace w.pace
  pub clients : HasClients w
  pub cash : All (λ cash. cash ≤ MAX_CASH) w.cash
  pub actors : AreSound setup (clients_of w) w.next_id w.actors
