-- Packets and plays, as C hands them over.
use Rattle.std.specs.Prelude.{ℕ, List, [], ◌∷◌, ◌++◌, length, drop, false}
use Rattle.std.specs.Prelude.{Option, None, Some, Result, Ok, Err, slice_get}
use Rattle.game_orders.specs.declared.entry.Entry.{Entry}
use Rattle.game_orders.specs.declared.entry.Entry.TheVariants.{Play, Leave}
use Rattle.game_orders.specs.declared.order.Order.{Order}
use Rattle.order_packets.specs.declared.down.Down.{Down}
use Rattle.order_packets.specs.declared.up.Up.{Up}
use Rattle.order_packets.specs.PacketReading.{FirstPacket, packet_at, up_at, down_at}
use Rattle.c_worlds.specs.Worlds.{frame_at}
use Rattle.c_matches.specs.declared.packet.CPacket.{CPacket}

-- The bytes in front, and behind them what stood there.
abbrev pub packet_with : List ℕ → CPacket → CPacket
packet_with bytes old =
    record { len = length bytes; bytes = bytes ++ drop (length bytes) old.bytes }

-- What is written of what is told.
abbrev pub packet_out : Result (List ℕ) ℕ → (old : CPacket) → CPacket
packet_out (Ok bytes) old = packet_with bytes old
packet_out (Err code) old = old

-- A packet with nothing behind it.
unfoldable pub alone : {P : Type 0} → FirstPacket P → Option P
alone (Ok None) = None
alone (Ok (Some (packet, []))) = Some packet
alone (Ok (Some (packet, byte ∷ bytes))) = None
alone (Err fault) = None

-- The packet that the bytes are.
abbrev pub up_in : List ℕ → Option Up
up_in bytes = alone (packet_at up_at bytes)

abbrev pub down_in : List ℕ → Option Down
down_in bytes = alone (packet_at down_at bytes)

abbrev pub play_of : Option Entry → Option (List Order)
play_of None = None
play_of (Some (Play orders)) = Some orders
play_of (Some Leave) = None

-- The orders of the first client of a frame.
abbrev pub orders_of : Option (List Entry) → Option (List Order)
orders_of None = None
orders_of (Some entries) = play_of (slice_get entries 0)

-- The orders of the play that the bytes are: those of a frame of one client.
abbrev pub orders_in : List ℕ → Option (List Order)
orders_in bytes = orders_of (frame_at (false ∷ []) bytes)
