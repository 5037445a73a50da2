-- How the orders of one client for one frame are held.
use Rattle.std.specs.Prelude.{List, [], ◌∷◌}
use Rattle.game_orders.specs.declared.order.Order.{Order}
use Rattle.game_orders.specs.declared.held_orders.HeldOrders.{HeldOrders}
use Rattle.game_orders.specs.declared.held_orders.HeldOrders.TheVariants.{Nothing, One, More}

-- The orders.
abbrev pub orders_of : HeldOrders → List Order
orders_of Nothing = []
orders_of (One order) = order ∷ []
orders_of (More held) = held.items
