use Rattle.match_run.proofs.BotPasses.{EndedSoFar}
use Rattle.match_run.proofs.feeding.leave_all.Given as goal

abbrev pub invariant-loop-i : goal.invariant-loop-i
invariant-loop-i g l = EndedSoFar l.scripts l.table l.initial.pass l.pass l.i
