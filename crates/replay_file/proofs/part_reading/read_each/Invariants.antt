-- What is still read after the held orders is what all of the bytes give.
use Rattle.std.proofs.Common.{◌≡◌, ◌++◌, ◌-◌, [], length}
use Rattle.std.specs.List.{AllByRecursion}
use Rattle.game_orders.specs.OrderBytes.{each_order}
use Rattle.replay_file.specs.PartReading.{orders_after}
use Rattle.replay_file.specs.PartRules.{HasTagUpTo}
use Rattle.replay_file.proofs.part_reading.read_each.Given as goal

abbrev pub invariant-loop : goal.invariant-loop
invariant-loop l =
    (orders_after l.greatest l.orders (l.count - l.counter) l.c
    ≡ orders_after l.greatest [] l.count l.fn.c)
    × (length l.orders ≡ l.counter)
    × (l.fn.c ≡ each_order l.orders ++ l.c)
    × AllByRecursion (HasTagUpTo l.greatest) l.orders
