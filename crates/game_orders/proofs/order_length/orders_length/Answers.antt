use Rattle.game_orders.proofs.OrdersLemmas.{all_counted}
use Rattle.game_orders.proofs.order_length.orders_length.Goals as goal

pub returns-clause-value : goal.returns-clause-value
returns-clause-value c =
    all_counted c.args.orders.now c.as_slice-order-items.result.now c.loop-order.order-index
    c.loop-order.length c.as_slice-order-items.ensures.value c.loop-order-test.false
    c.loop-order.invariant.0
