-- What an event of a match names.
use Rattle.std.specs.Prelude.{ℕ, ◌^◌, Bool, true, nat_lt, nat_le, ◌&&◌, length}
use Rattle.std.specs.List.{list_all}
use Rattle.world_units.specs.declared.cell.CPos.{CPos}
use Rattle.game_orders.specs.declared.order.Order.{Order}
use Rattle.game_orders.specs.declared.order.Order.TheVariants.{Move, Attack, Harvest, Stop}
use Rattle.game_orders.specs.declared.order.Order.TheVariants.{Produce, Cancel, Donate, Pace}
use Rattle.game_orders.specs.declared.limits.TheConstants.{MAX_ORDERS}
use Rattle.drill_words.specs.declared.event.Event.{Event}
use Rattle.drill_words.specs.declared.event.Event.TheVariants.{Seal, Up, Down, Tick, TickServer}
use Rattle.drill_words.specs.declared.event.Event.TheVariants.{DropClient, Report, Forge, Bye}

-- The peers and clients that the event names are below the number of clients.
abbrev pub event_fits : ℕ → Event → Bool
event_fits clients (Seal peer orders) = nat_lt peer clients
event_fits clients (Up packet) = true
event_fits clients (Down peer client frame) = nat_lt peer clients && nat_lt client clients
event_fits clients (Tick peer) = nat_lt peer clients
event_fits clients TickServer = true
event_fits clients (DropClient client) = nat_lt client clients
event_fits clients (Report peer) = nat_lt peer clients
event_fits clients (Forge client frame hash) = nat_lt client clients
event_fits clients (Bye peer) = nat_lt peer clients

-- The numbers of an order, and of an event, are within their types.
abbrev pub cell_in_range : CPos → Bool
cell_in_range cell = nat_lt cell.x (2 ^ 8) && nat_lt cell.y (2 ^ 8)

abbrev pub order_in_range : Order → Bool
order_in_range (Move actor cell queued) = nat_lt actor (2 ^ 32) && cell_in_range cell
order_in_range (Attack actor target queued) = nat_lt actor (2 ^ 32) && nat_lt target (2 ^ 32)
order_in_range (Harvest actor cell queued) = nat_lt actor (2 ^ 32) && cell_in_range cell
order_in_range (Stop actor) = nat_lt actor (2 ^ 32)
order_in_range (Produce actor kind) = nat_lt actor (2 ^ 32) && nat_lt kind (2 ^ 16)
order_in_range (Cancel actor) = nat_lt actor (2 ^ 32)
order_in_range (Donate to amount) = nat_lt to (2 ^ 8) && nat_lt amount (2 ^ 32)
order_in_range (Pace ticks) = nat_lt ticks (2 ^ 8)

abbrev pub event_in_range : Event → Bool
event_in_range (Seal peer orders) =
    nat_le (length orders) MAX_ORDERS && list_all order_in_range orders
event_in_range (Up packet) = nat_lt packet (2 ^ 32)
event_in_range (Down peer client frame) = nat_lt frame (2 ^ 32)
event_in_range (Tick peer) = true
event_in_range TickServer = true
event_in_range (DropClient client) = true
event_in_range (Report peer) = true
event_in_range (Forge client frame hash) = nat_lt frame (2 ^ 32) && nat_lt hash (2 ^ 64)
event_in_range (Bye peer) = true
