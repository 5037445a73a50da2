use Rattle.std.proofs.Common.{arith, [], ◌∷◌}
use Rattle.std.proofs.lemmas.List.{length-append}
use Rattle.game_orders.proofs.OrdersLemmas.{each_spelled}
use Rattle.replay_file.proofs.OrdersLemmas.{next_is_held, all_added}
use Rattle.replay_file.specs.PartReading.{orders_after}
use Rattle.replay_file.specs.PartRules.{HasTagUpTo}
use Rattle.replay_file.proofs.part_reading.read_each.Goals as goal

pub loop-preserved : goal.loop-preserved
loop-preserved c =
    let held = c.loop.orders in
    let order = c.in_ok-order.order in
    let next = c.read_order_in.new.c in
    let greatest = c.args.greatest in
    rw c.push.ensures (
      next_is_held greatest held c.args.count c.loop.counter c.loop.c next order
          (orders_after greatest [] c.args.count c.args.c.now) c.loop-test.true
          c.in_ok-order.ensures.reads c.loop.invariant.0,
      omega (arith, length-append held (order ∷ []), c.loop.invariant.1),
      each_spelled held order c.args.c.now c.loop.c next c.loop.invariant.2
          c.in_ok-order.ensures.spelled,
      all_added (HasTagUpTo greatest) held order c.loop.invariant.3 c.in_ok-order.ensures.known,
    )
