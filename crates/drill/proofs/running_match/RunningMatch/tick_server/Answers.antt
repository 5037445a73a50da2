use Rattle.std.proofs.Common.{subst, sym}
use Rattle.drill.specs.RunningMatch.{IsWhole}
use Rattle.drill.proofs.EventLemmas.{tick_server_runs}
use Rattle.drill.proofs.running_match.RunningMatch.tick_server.Goals as goal

pub returns-clause-runs : goal.returns-clause-runs
returns-clause-runs g c =
    rw (← c.self.view_is)
    (tick_server_runs _ _ _ _ _ _ (subst IsWhole (sym c.self.view_is) c.requires.whole)
    c.in_ok-answer.ensures.answer c.in_ok-answer.ensures.after)
