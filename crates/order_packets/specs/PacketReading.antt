-- Packets read from a stream: the first packet and the bytes after it, that the stream is still
-- open, or the fault that stands in a packet's place.
use Rattle.std.specs.Prelude.{ℕ, ◌==◌, nat_lt, if◌then◌else◌, List, [], ◌∷◌, length}
use Rattle.std.specs.Prelude.{take, drop, Option, Some, None, Result, Ok, Err}
use Rattle.base.specs.Steps.{◌>>=◌}
use Rattle.wire_bytes.specs.declared.short.Short as short
use Rattle.wire_bytes.specs.Read.{field_at, number_at}
use Rattle.game_orders.specs.declared.order.Order as order
use Rattle.game_orders.specs.declared.entry.Entry.TheVariants.{Play, Leave}
use Rattle.game_orders.specs.declared.orders_fault.OrdersFault.{OrdersFault}
use Rattle.game_orders.specs.declared.orders_fault.OrdersFault.TheVariants as orders_fault
use Rattle.game_orders.specs.OrderReading.{OrdersRead, orders_at}
use Rattle.order_packets.specs.declared.feed_fault.FeedFault.{FeedFault}
use Rattle.order_packets.specs.declared.feed_fault.FeedFault.TheVariants as fault
use Rattle.order_packets.specs.declared.limits.TheConstants.{MAX_PAYLOAD}
use Rattle.order_packets.specs.declared.up.Up.{Up}
use Rattle.order_packets.specs.declared.up.Up.TheVariants.{Hello, Orders, Sync, Bye}
use Rattle.order_packets.specs.declared.down.Down.{Down}
use Rattle.order_packets.specs.declared.down.Down.TheVariants.{Welcome, Refused, Entry}

-- A value within a payload and the bytes after it, or the fault.
abbrev pub PacketRead : Type 0 → Type 0
PacketRead A = Result (A × List ℕ) FeedFault

-- The fault of a packet for that of the orders in it.
abbrev pub packet_fault : OrdersFault → FeedFault
packet_fault orders_fault.Short = fault.ShortPacket
packet_fault orders_fault.TooMany = fault.TooManyOrders
packet_fault orders_fault.BadOrder = fault.BadOrder

abbrev pub in_packet : OrdersRead → PacketRead (List order.Order)
in_packet (Ok read) = Ok read
in_packet (Err orders) = Err (packet_fault orders)

-- The fields after the tag of each packet.
unfoldable pub hello_at : List ℕ → PacketRead Up
hello_at bytes = do
  version ← number_at fault.ShortPacket 2 bytes
  rules ← number_at fault.ShortPacket 8 version.1
  Ok (Hello version.0 rules.0, rules.1)

unfoldable pub sealed_at : List ℕ → PacketRead Up
sealed_at bytes = do
  frame ← number_at fault.ShortPacket 4 bytes
  orders ← in_packet (orders_at frame.1)
  Ok (Orders frame.0 orders.0, orders.1)

unfoldable pub sync_at : List ℕ → PacketRead Up
sync_at bytes = do
  frame ← number_at fault.ShortPacket 4 bytes
  hash ← number_at fault.ShortPacket 8 frame.1
  Ok (Sync frame.0 hash.0, hash.1)

unfoldable pub up_fields : ℕ → List ℕ → PacketRead Up
up_fields tag bytes =
    if tag == 1 then hello_at bytes
    else (if tag == 2 then sealed_at bytes
    else (if tag == 3 then sync_at bytes
    else (if tag == 4 then Ok (Bye, bytes)
    else Err fault.BadTag)))

-- A packet to the server: its tag, then its fields.
unfoldable pub up_at : List ℕ → PacketRead Up
up_at bytes = number_at fault.ShortPacket 1 bytes >>= λ tag. up_fields tag.0 tag.1

unfoldable pub welcome_at : List ℕ → PacketRead Down
welcome_at bytes = do
  client ← number_at fault.ShortPacket 1 bytes
  clients ← number_at fault.ShortPacket 1 client.1
  lag ← number_at fault.ShortPacket 1 clients.1
  seed ← number_at fault.ShortPacket 4 lag.1
  Ok (Welcome client.0 clients.0 lag.0 seed.0, seed.1)

unfoldable pub refused_at : List ℕ → PacketRead Down
refused_at bytes = do
  code ← number_at fault.ShortPacket 1 bytes
  Ok (Refused code.0, code.1)

unfoldable pub play_at : List ℕ → PacketRead Down
play_at bytes = do
  client ← number_at fault.ShortPacket 1 bytes
  frame ← number_at fault.ShortPacket 4 client.1
  orders ← in_packet (orders_at frame.1)
  Ok (Entry client.0 frame.0 (Play orders.0), orders.1)

unfoldable pub leave_at : List ℕ → PacketRead Down
leave_at bytes = do
  client ← number_at fault.ShortPacket 1 bytes
  frame ← number_at fault.ShortPacket 4 client.1
  Ok (Entry client.0 frame.0 Leave, frame.1)

unfoldable pub down_fields : ℕ → List ℕ → PacketRead Down
down_fields tag bytes =
    if tag == 17 then welcome_at bytes
    else (if tag == 18 then refused_at bytes
    else (if tag == 19 then play_at bytes
    else (if tag == 20 then leave_at bytes
    else Err fault.BadTag)))

-- A packet to a client: its tag, then its fields.
unfoldable pub down_at : List ℕ → PacketRead Down
down_at bytes = number_at fault.ShortPacket 1 bytes >>= λ tag. down_fields tag.0 tag.1

-- A packet that its payload ends with.
abbrev pub ended : {P : Type 0} → P → List ℕ → Result P FeedFault
ended packet [] = Ok packet
ended packet (byte ∷ more) = Err fault.TrailingInPacket

-- The packet of a whole payload, read by `at`.
unfoldable pub payload_at : {P : Type 0} → (List ℕ → PacketRead P) → List ℕ → Result P FeedFault
payload_at at payload = at payload >>= λ read. ended read.0 read.1

-- What a stream begins with: a packet and the bytes after it, or None where it is open, that is
-- begins with less than a whole packet and with no fault so far.
abbrev pub FirstPacket : Type 0 → Type 0
FirstPacket P = Result (Option (P × List ℕ)) FeedFault

-- A payload of this length, and what follows it. A length above the greatest is a fault at once,
-- every other fault comes once the payload is whole.
unfoldable pub sized_at : {P : Type 0} → (List ℕ → PacketRead P) → ℕ → List ℕ → FirstPacket P
sized_at at size bytes =
    if nat_lt MAX_PAYLOAD size then Err fault.LengthTooLarge
    else (if nat_lt (length bytes) size then Ok None
    else (payload_at at (take size bytes) >>= λ packet. Ok (Some (packet, drop size bytes))))

abbrev pub behind_length :
    {P : Type 0} → (List ℕ → PacketRead P) → Result (ℕ × List ℕ) short.Short → FirstPacket P
behind_length at (Ok size) = sized_at at size.0 size.1
behind_length at (Err few) = Ok None

unfoldable pub packet_at : {P : Type 0} → (List ℕ → PacketRead P) → List ℕ → FirstPacket P
packet_at at bytes = behind_length at (field_at 2 bytes)
