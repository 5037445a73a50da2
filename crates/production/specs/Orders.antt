-- What an order to build makes of a table and a purse.
use Rattle.std.specs.Prelude.{◌≡◌, ℕ, List}
use Rattle.game_tick.specs.Orders.{Goods}
use Rattle.actor_table.specs.Table.{Table}

-- The actors and the cash after it are these, and the map's size stays.
pub record IsDone (old new : Table) (cash : List ℕ) (after : Goods) : Type 0 where
  pub table : new ≡ record old { actors = after.actors }
  pub purse : cash ≡ after.cash
