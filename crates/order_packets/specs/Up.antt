-- Packets are compared by their values.
use Rattle.std.specs.Prelude.{◌==◌, ◌&&◌, Bool, true, false}
use Rattle.game_orders.specs.Order.{same_orders}
use Rattle.order_packets.specs.declared.up.Up.{Up}
use Rattle.order_packets.specs.declared.up.Up.TheVariants.{Hello, Orders, Sync, Bye}

-- The two are the same packet.
abbrev pub same_up : Up → Up → Bool
same_up (Hello version rules) (Hello other_version other_rules) =
    (version == other_version) && (rules == other_rules)
same_up (Orders frame orders) (Orders other_frame other_orders) =
    (frame == other_frame) && same_orders orders other_orders
same_up (Sync frame hash) (Sync other_frame other_hash) =
    (frame == other_frame) && (hash == other_hash)
same_up Bye Bye = true
same_up packet other = false
