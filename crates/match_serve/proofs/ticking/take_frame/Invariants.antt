use Rattle.std.proofs.Common.{◌≤◌}
use Rattle.match_serve.proofs.TickLemmas.{TakenSoFar}
use Rattle.match_serve.proofs.ticking.take_frame.Given as goal

abbrev pub invariant-loop-c : goal.invariant-loop-c
invariant-loop-c g l = TakenSoFar l.clients l.table l.initial.pass l.pass l.n l.c l.frame × (l.c ≤ l.clients)
