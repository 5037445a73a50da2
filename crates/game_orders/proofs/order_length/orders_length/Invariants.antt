-- The length so far is that of the count and of a prefix of the orders.
use Rattle.std.proofs.Common.{◌≡◌, ◌≤◌, ◌+◌, ◌*◌, length, take}
use Rattle.game_orders.specs.OrderBytes.{each_order}
use Rattle.game_orders.proofs.order_length.orders_length.Given as goal

abbrev pub invariant-loop-order : goal.invariant-loop-order
invariant-loop-order l =
    (l.length ≡ 1 + length (each_order (take l.order-index l.order-items)))
    × (l.length ≤ 1 + 10 * l.order-index)
