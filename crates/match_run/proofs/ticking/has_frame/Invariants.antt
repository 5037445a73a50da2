use Rattle.match_run.proofs.Taking.{HadSoFar}
use Rattle.match_run.proofs.ticking.has_frame.Given as goal

abbrev pub invariant-loop-own : goal.invariant-loop-own
invariant-loop-own l = HadSoFar l.taken l.n l.own-index
