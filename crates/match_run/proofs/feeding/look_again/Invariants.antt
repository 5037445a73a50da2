use Rattle.match_run.proofs.BotPasses.{LookedSoFar}
use Rattle.match_run.proofs.feeding.look_again.Given as goal

abbrev pub invariant-loop-i : goal.invariant-loop-i
invariant-loop-i g l = LookedSoFar l.scripts l.table l.initial.pass l.pass l.i
