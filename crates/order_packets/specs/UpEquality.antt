-- The comparison of packets decides whether they are the same.
use Rattle.std.specs.Prelude.{◌≡◌, ◌==◌, ◌&&◌}
use Rattle.std.specs.Bool.{Decides}
use Rattle.std.proofs.Common.{refl, ap₂}
use Rattle.std.proofs.lemmas.Bool.Decides.{Decides-and, Decides-eqb}
use Rattle.game_orders.specs.Order.{same_orders}
use Rattle.game_orders.specs.OrderEquality.{orders_decides}
use Rattle.order_packets.specs.declared.up.Up.{Up}
use Rattle.order_packets.specs.declared.up.Up.TheVariants.{Hello, Orders, Sync, Bye}
use Rattle.order_packets.specs.Up.{same_up}

pub up_decides : (a b : Up) → Decides (same_up a b) (a ≡ b)
up_decides (Hello version rules) (Hello other_version other_rules) =
    let both :
    Decides ((version == other_version) && (rules == other_rules))
    ((version ≡ other_version) × (rules ≡ other_rules)) =
    Decides-and (version == other_version) (rules == other_rules)
    (Decides-eqb version other_version) (Decides-eqb rules other_rules) in
    ((λ same. ap₂ Hello (both.0 same).0 (both.0 same).1), (λ same. both.1 (cc, cc)))
up_decides (Orders frame orders) (Orders other_frame other_orders) =
    let both :
    Decides ((frame == other_frame) && same_orders orders other_orders)
    ((frame ≡ other_frame) × (orders ≡ other_orders)) =
    Decides-and (frame == other_frame) (same_orders orders other_orders)
    (Decides-eqb frame other_frame) (orders_decides orders other_orders) in
    ((λ same. ap₂ Orders (both.0 same).0 (both.0 same).1), (λ same. both.1 (cc, cc)))
up_decides (Sync frame hash) (Sync other_frame other_hash) =
    let both :
    Decides ((frame == other_frame) && (hash == other_hash))
    ((frame ≡ other_frame) × (hash ≡ other_hash)) =
    Decides-and (frame == other_frame) (hash == other_hash)
    (Decides-eqb frame other_frame) (Decides-eqb hash other_hash) in
    ((λ same. ap₂ Sync (both.0 same).0 (both.0 same).1), (λ same. both.1 (cc, cc)))
up_decides Bye Bye = ((λ _. refl), (λ _. refl))
up_decides packet other = ((λ never. cc), (λ same. cc))
