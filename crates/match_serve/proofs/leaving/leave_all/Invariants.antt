use Rattle.match_serve.proofs.LeaveLemmas.{GoneSoFar}
use Rattle.match_serve.proofs.leaving.leave_all.Given as goal

abbrev pub invariant-loop-c : goal.invariant-loop-c
invariant-loop-c g l = GoneSoFar l.clients l.table l.initial.pass l.pass l.c
