use Rattle.std.proofs.Common.{◌-◌, arith}
use Rattle.actor_table.specs.Order.{IsOnlyBetween}
use Rattle.actor_table.proofs.OrderCalls.{before_greater, from_not_greater, from_front}
use Rattle.actor_table.proofs.order.find_before.Goals.{then-loop-step-test+else-order-to, else-loop-step-test}
use Rattle.actor_table.proofs.order.find_before.Goals as goal

pub loop-step-preserved : goal.loop-step-preserved
loop-step-preserved c =
    let so_far = c.loop-step.invariant in
    record {
      steps = omega (arith, so_far.steps);
      within = omega (arith, so_far.within);
      before = before_greater c.args.order.now c.args.id (c.loop-step.to - c.loop-step.step) _ c.requires.rises (omega (arith, so_far.steps, so_far.within, c.loop-step-test.true)) c.if-order-to.true;
    }

pub find_between-requires-clause-between : goal.find_between-requires-clause-between
find_between-requires-clause-between c =
    let so_far = c.loop-step.invariant in
    let left : IsOnlyBetween c.args.order.now c.args.id (c.loop-step.to - c.loop-step.step) c.loop-step.to =
    elim c.loop-step-test.branch [
      | then-loop-step-test+else-order-to w ↦ from_not_greater c.args.order.now c.args.id c.loop-step.to c.loop-step.step _ c.requires.rises so_far.within so_far.steps so_far.before w.if-order-to.false
      | else-loop-step-test w ↦ from_front c.args.order.now c.args.id c.loop-step.to c.loop-step.step so_far.before w.loop-step-test.false
    ] in
    rw c.saturating_sub.ensures left
