use Rattle.std.proofs.Common.{sym}
use Rattle.tick_core.proofs.BurialLemmas.{kept_next}
use Rattle.tick_core.proofs.burial.forget_the_dead.Goals as goal

-- The number of the next actor goes with it, if it has no health.
pub loop-i-preserved : goal.loop-i-preserved
loop-i-preserved c =
    kept_next c.args.hasher.now c.loop-i.hasher c.forget_if_dead.new.hasher c.args.table.now.actors c.loop-i.i _ c.len-i-end.ensures.list.rise (sym c.in-Some.ensures) c.loop-i.invariant c.forget_if_dead.ensures
