-- The turns that are left make of the world what all of them make of the first.
use Rattle.tick_core.proofs.TickLemmas.{TurnedSoFar}
use Rattle.tick_core.proofs.live_world.LiveWorld.run_turns.Given as goal

abbrev pub invariant-loop-turn : goal.invariant-loop-turn
invariant-loop-turn l = TurnedSoFar l.initial.self l.self l.turns l._turn
