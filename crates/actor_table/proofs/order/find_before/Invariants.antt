use Rattle.std.proofs.Common.{◌≤◌, length}
use Rattle.actor_table.specs.Order.{IsOnlyBetween}
use Rattle.actor_table.proofs.order.find_before.Given as goal

abbrev pub invariant-loop-step : goal.invariant-loop-step
invariant-loop-step l =
    record {
      steps : 1 ≤ l.step;
      within : l.to ≤ length l.order;
      before : IsOnlyBetween l.order l.id 0 l.to;
    }

abbrev pub decreases-loop-step : goal.decreases-loop-step
decreases-loop-step l = l.to
