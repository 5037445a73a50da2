-- Packets as bytes. Each packet has one spelling.
use Rattle.std.specs.Prelude.{ℕ, ◌<◌, ◌^◌, List, ◌++◌, length}
use Rattle.wire_bytes.specs.Field.{field_bytes}
use Rattle.game_orders.specs.declared.entry.Entry.TheVariants.{Play, Leave}
use Rattle.game_orders.specs.OrderBytes.{orders_bytes, FitsOrders}
use Rattle.order_packets.specs.declared.up.Up.{Up}
use Rattle.order_packets.specs.declared.up.Up.TheVariants.{Hello, Orders, Sync, Bye}
use Rattle.order_packets.specs.declared.down.Down.{Down}
use Rattle.order_packets.specs.declared.down.Down.TheVariants.{Welcome, Refused, Entry}

-- The payload of a packet to the server: its tag, then its fields in order.
unfoldable pub up_payload : Up → List ℕ
up_payload (Hello version rules) = field_bytes 1 1 ++ (field_bytes 2 version ++ field_bytes 8 rules)
up_payload (Orders frame orders) = field_bytes 1 2 ++ (field_bytes 4 frame ++ orders_bytes orders)
up_payload (Sync frame hash) = field_bytes 1 3 ++ (field_bytes 4 frame ++ field_bytes 8 hash)
up_payload Bye = field_bytes 1 4

-- The payload of a packet to a client. A play and a departure have tags of their own.
unfoldable pub down_payload : Down → List ℕ
down_payload (Welcome client clients lag seed) =
    field_bytes 1 17 ++ (field_bytes 1 client ++ field_bytes 1 clients ++ field_bytes 1 lag
    ++ field_bytes 4 seed)
down_payload (Refused code) = field_bytes 1 18 ++ field_bytes 1 code
down_payload (Entry client frame (Play orders)) =
    field_bytes 1 19 ++ (field_bytes 1 client ++ field_bytes 4 frame ++ orders_bytes orders)
down_payload (Entry client frame Leave) =
    field_bytes 1 20 ++ (field_bytes 1 client ++ field_bytes 4 frame)

-- A payload after its length.
unfoldable pub framed : List ℕ → List ℕ
framed payload = field_bytes 2 (length payload) ++ payload

-- The spelling of a packet.
abbrev pub up_bytes : Up → List ℕ
up_bytes packet = framed (up_payload packet)

abbrev pub down_bytes : Down → List ℕ
down_bytes packet = framed (down_payload packet)

-- The packet's numbers fit their fields, as those of every packet that code holds do.
abbrev pub FitsUp : Up → Type 0
FitsUp (Hello version rules) = (version < 2 ^ 16) × (rules < 2 ^ 64)
FitsUp (Orders frame orders) = (frame < 2 ^ 32) × FitsOrders orders
FitsUp (Sync frame hash) = (frame < 2 ^ 32) × (hash < 2 ^ 64)
FitsUp Bye = Unit {0}

abbrev pub FitsDown : Down → Type 0
FitsDown (Welcome client clients lag seed) =
    (client < 256) × (clients < 256) × (lag < 256) × (seed < 2 ^ 32)
FitsDown (Refused code) = code < 256
FitsDown (Entry client frame (Play orders)) = (client < 256) × (frame < 2 ^ 32) × FitsOrders orders
FitsDown (Entry client frame Leave) = (client < 256) × (frame < 2 ^ 32)
