use Rattle.match_run.proofs.BotPasses.{FedSoFar}
use Rattle.match_run.proofs.feeding.put_plays.Given as goal

abbrev pub invariant-loop-i : goal.invariant-loop-i
invariant-loop-i g l = FedSoFar l.scripts l.table (λ c. g.B.Bots.orders_of l.bots l.sim c) l.initial.pass l.pass l.n l.i l.ordered
