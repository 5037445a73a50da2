-- What the orders of a bot are by, in other words than those of their definition.
use Rattle.std.specs.Prelude.{◌≡◌, ℕ, ◌<◌, true, false, Contains, List, MatchOption}
use Rattle.world_units.specs.declared.cell.CPos.{CPos}
use Rattle.rule_traits.specs.declared.kind.Kind.{Kind}
use Rattle.game_model.specs.declared.actor.Actor.{Actor}
use Rattle.game_model.specs.NearestActor.{IsNearest}
use Rattle.game_tick.specs.Orders.{Goods, produce_fits}
use Rattle.bot_player.specs.BotOrders.{is_enemy, least_product, nearest_enemy}

-- One of the actors, and an enemy of the client.
pub record IsEnemyAmong (rules : List Kind) (actors : List Actor) (c : ℕ) (x : Actor) : Type 0 where
  pub there : Contains actors x
  pub enemy : is_enemy rules c x ≡ true

-- A Produce of the kind fits on the actor, and of no kind of a lesser number.
pub record IsLeastThatFits (rules : List Kind) (goods : Goods) (c : ℕ) (a : Actor) (number : ℕ)
    : Type 0 where
  pub fits : produce_fits rules goods c number a ≡ true
  pub least : (lesser : ℕ) → lesser < number → produce_fits rules goods c lesser a ≡ false

-- The nearest enemy is an enemy, and as near as any: of those that are equally far it has the least
-- id. There is none exactly where there is no enemy.
abbrev pub TellsNearest : List Kind → List Actor → (c : ℕ) → CPos → Type 0
TellsNearest rules actors c from =
    IsNearest from (IsEnemyAmong rules actors c) (nearest_enemy rules actors c from)

-- The least product is the least kind that fits. There is none exactly where no number of a kind
-- fits.
abbrev pub TellsLeast : List Kind → Goods → (c : ℕ) → Actor → Type 0
TellsLeast rules goods c a =
    MatchOption (least_product rules goods c a)
    ((number : ℕ) → produce_fits rules goods c number a ≡ false)
    (IsLeastThatFits rules goods c a)
