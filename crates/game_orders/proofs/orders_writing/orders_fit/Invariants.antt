-- The orders that were gone over fit.
use Rattle.std.proofs.Common.{take}
use Rattle.std.specs.List.{AllByRecursion}
use Rattle.game_orders.specs.OrderBytes.{FitsOrder}
use Rattle.game_orders.proofs.orders_writing.orders_fit.Given as goal

abbrev pub invariant-loop-order : goal.invariant-loop-order
invariant-loop-order l = AllByRecursion FitsOrder (take l.order-index l.order-items)
