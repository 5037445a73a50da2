-- What is written so far is the spelling of a prefix of the orders.
use Rattle.std.proofs.Common.{◌≡◌, ◌++◌, take}
use Rattle.game_orders.specs.OrderBytes.{each_order}
use Rattle.game_orders.proofs.orders_writing.append_each.Given as goal

abbrev pub invariant-loop-order : goal.invariant-loop-order
invariant-loop-order l =
    l.out.items ≡ l.fn.out.items ++ each_order (take l.order-index l.orders)
