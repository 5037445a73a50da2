-- The packet that a view shows.
use Rattle.order_packets.specs.declared.up.Up.{Up as Packet}
use Rattle.order_packets.specs.declared.up.Up.TheVariants.{Orders, Sync, Bye}
use Rattle.drill.specs.declared.packet_view.PacketView.{PacketView}
use Rattle.drill.specs.declared.packet_view.PacketView.TheVariants as view

-- The packet, of which a view only borrows the orders.
abbrev pub packet_of : PacketView → Packet
packet_of (view.Orders frame orders) = Orders frame orders
packet_of (view.Sync frame hash) = Sync frame hash
packet_of view.Bye = Bye
