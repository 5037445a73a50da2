-- An event whose orders stand beside it.
use Rattle.std.specs.Prelude.{List}
use Rattle.game_orders.specs.declared.order.Order.{Order}
use Rattle.drill_words.specs.declared.event.Event.{Event}
use Rattle.drill_words.specs.declared.event.Event.TheVariants.{Seal, Up, Down, Tick, TickServer}
use Rattle.drill_words.specs.declared.event.Event.TheVariants.{DropClient, Report, Forge, Bye}
use Rattle.drill_words.specs.declared.bare_event.BareEvent.{BareEvent}
use Rattle.drill_words.specs.declared.bare_event.BareEvent.TheVariants as bare

-- The event with these orders, which a seal alone has.
abbrev pub with_orders : List Order → BareEvent → Event
with_orders orders (bare.Seal peer) = Seal peer orders
with_orders orders (bare.Up packet) = Up packet
with_orders orders (bare.Down peer client frame) = Down peer client frame
with_orders orders (bare.Tick peer) = Tick peer
with_orders orders bare.TickServer = TickServer
with_orders orders (bare.DropClient client) = DropClient client
with_orders orders (bare.Report peer) = Report peer
with_orders orders (bare.Forge client frame hash) = Forge client frame hash
with_orders orders (bare.Bye peer) = Bye peer
