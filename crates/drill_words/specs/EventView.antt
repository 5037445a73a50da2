-- The event that a list lends.
use Rattle.drill_words.specs.declared.event.Event.{Event}
use Rattle.drill_words.specs.declared.event.Event.TheVariants.{Seal, Up, Down, Tick, TickServer}
use Rattle.drill_words.specs.declared.event.Event.TheVariants.{DropClient, Report, Forge, Bye}
use Rattle.drill_words.specs.declared.event_view.EventView.{EventView}
use Rattle.drill_words.specs.declared.event_view.EventView.TheVariants as view

-- The event that a view shows.
abbrev pub event_of : EventView → Event
event_of (view.Seal peer orders) = Seal peer orders
event_of (view.Up packet) = Up packet
event_of (view.Down peer client frame) = Down peer client frame
event_of (view.Tick peer) = Tick peer
event_of view.TickServer = TickServer
event_of (view.DropClient client) = DropClient client
event_of (view.Report peer) = Report peer
event_of (view.Forge client frame hash) = Forge client frame hash
event_of (view.Bye peer) = Bye peer
