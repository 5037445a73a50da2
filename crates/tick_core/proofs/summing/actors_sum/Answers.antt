use Rattle.std.proofs.Common.{sym}
use Rattle.tick_core.proofs.TickLemmas.{sum_next}
use Rattle.tick_core.proofs.summing.actors_sum.Goals as goal

-- The next actor's number is added.
pub loop-i-preserved : goal.loop-i-preserved
loop-i-preserved c =
    rw c.actor_number-sum.ensures
    (sum_next c.args.table.now.actors c.loop-i.i c.loop-i.sum _ _ (sym c.in-Some.ensures) c.loop-i.invariant)
