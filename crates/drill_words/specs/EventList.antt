-- How a list of events is stored: a head for each event, and one pool with the orders of all seals.
use Rattle.std.specs.Prelude.{ℕ, ◌+◌, nat_le, Bool, true, ◌&&◌, List, [], map, length, take, drop}
use Rattle.game_orders.specs.declared.order.Order.{Order}
use Rattle.game_orders.specs.declared.limits.TheConstants.{MAX_ORDERS}
use Rattle.drill_words.specs.declared.event.Event.{Event}
use Rattle.drill_words.specs.declared.event.Event.TheVariants.{Seal, Up, Down, Tick, TickServer}
use Rattle.drill_words.specs.declared.event.Event.TheVariants.{DropClient, Report, Forge, Bye}
use Rattle.drill_words.specs.declared.event_head.EventHead.{EventHead}
use Rattle.drill_words.specs.declared.event_head.EventHead.TheVariants as head

-- The event of a head. A seal has the orders of its own part of the pool.
abbrev pub event_from : List Order → EventHead → Event
event_from pool (head.Seal peer count first) = Seal peer (take count (drop first pool))
event_from pool (head.Up packet) = Up packet
event_from pool (head.Down peer client frame) = Down peer client frame
event_from pool (head.Tick peer) = Tick peer
event_from pool head.TickServer = TickServer
event_from pool (head.DropClient client) = DropClient client
event_from pool (head.Report peer) = Report peer
event_from pool (head.Forge client frame hash) = Forge client frame hash
event_from pool (head.Bye peer) = Bye peer

abbrev pub stored_events : List Order → List EventHead → List Event
stored_events pool heads = map (event_from pool) heads

-- The part of a seal lies in a pool of so many orders.
abbrev pub is_stored : ℕ → EventHead → Bool
is_stored size (head.Seal peer count first) = nat_le (first + count) size && nat_le count MAX_ORDERS
is_stored size (head.Up packet) = true
is_stored size (head.Down peer client frame) = true
is_stored size (head.Tick peer) = true
is_stored size head.TickServer = true
is_stored size (head.DropClient client) = true
is_stored size (head.Report peer) = true
is_stored size (head.Forge client frame hash) = true
is_stored size (head.Bye peer) = true

-- The orders of an event, which are those of a seal.
abbrev pub orders_in : Event → List Order
orders_in (Seal peer orders) = orders
orders_in (Up packet) = []
orders_in (Down peer client frame) = []
orders_in (Tick peer) = []
orders_in TickServer = []
orders_in (DropClient client) = []
orders_in (Report peer) = []
orders_in (Forge client frame hash) = []
orders_in (Bye peer) = []

-- The head of an event whose orders stand in the pool from this place on.
abbrev pub head_of : ℕ → Event → EventHead
head_of first (Seal peer orders) = head.Seal peer (length orders) first
head_of first (Up packet) = head.Up packet
head_of first (Down peer client frame) = head.Down peer client frame
head_of first (Tick peer) = head.Tick peer
head_of first TickServer = head.TickServer
head_of first (DropClient client) = head.DropClient client
head_of first (Report peer) = head.Report peer
head_of first (Forge client frame hash) = head.Forge client frame hash
head_of first (Bye peer) = head.Bye peer
