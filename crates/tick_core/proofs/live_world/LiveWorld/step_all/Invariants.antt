-- The actors that are left make of the world what all of them make of the first.
use Rattle.tick_core.proofs.BusyLemmas.{SteppedSoFar}
use Rattle.tick_core.proofs.live_world.LiveWorld.step_all.Given as goal

abbrev pub invariant-loop-i : goal.invariant-loop-i
invariant-loop-i l = SteppedSoFar l.initial.self l.self l.i
