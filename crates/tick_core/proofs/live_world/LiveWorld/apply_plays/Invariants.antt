-- The entries that are left make of the world what all of them make of the first.
use Rattle.tick_core.proofs.TickLemmas.{EnteredSoFar}
use Rattle.tick_core.proofs.live_world.LiveWorld.apply_plays.Given as goal

abbrev pub invariant-loop-c : goal.invariant-loop-c
invariant-loop-c l = EnteredSoFar l.initial.self l.self l.f l.c
