-- What a bot orders in a game.
use Rattle.std.specs.Prelude.{ℕ, List}
use Rattle.game_orders.specs.declared.order.Order.{Order}
use Rattle.bot_player.specs.BotOrders.{bot_orders_of}
use Rattle.tick_core.specs.Game.{GameState}

-- What a bot that is client c orders in the game's world, over the rules and the map of the game.
abbrev pub game_orders : GameState → (c : ℕ) → List Order
game_orders game c = bot_orders_of game.setup game.world c
