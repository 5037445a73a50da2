-- The comparison of entries is true exactly where the two are the same.
use Rattle.std.specs.Prelude.{◌≡◌}
use Rattle.std.specs.Bool.{Decides}
use Rattle.std.proofs.Common.{refl, ap}
use Rattle.game_orders.specs.declared.entry.Entry.{Entry}
use Rattle.game_orders.specs.declared.entry.Entry.TheVariants.{Play, Leave}
use Rattle.game_orders.specs.OrderEquality.{orders_decides}
use Rattle.game_orders.specs.Entry.{same_entry}

pub entry_decides : (a b : Entry) → Decides (same_entry a b) (a ≡ b)
entry_decides (Play orders) (Play others) =
    ((λ same. ap Play ((orders_decides orders others).0 same)), (λ same. (orders_decides orders others).1 cc))
entry_decides (Play orders) Leave = ((λ never. cc), (λ same. cc))
entry_decides Leave (Play others) = ((λ never. cc), (λ same. cc))
entry_decides Leave Leave = ((λ _. refl), (λ _. refl))
