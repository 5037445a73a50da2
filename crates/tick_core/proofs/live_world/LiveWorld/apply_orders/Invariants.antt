-- The orders that are left make of the world what all of them make of the first.
use Rattle.tick_core.proofs.TickLemmas.{OrderedSoFar}
use Rattle.tick_core.proofs.live_world.LiveWorld.apply_orders.Given as goal

abbrev pub invariant-loop-i : goal.invariant-loop-i
invariant-loop-i l = OrderedSoFar l.initial.self l.self l.client l.orders l.i
