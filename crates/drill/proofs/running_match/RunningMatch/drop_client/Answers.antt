use Rattle.std.proofs.Common.{subst, sym}
use Rattle.drill.specs.RunningMatch.{IsWhole}
use Rattle.drill.proofs.EventLemmas.{drop_runs}
use Rattle.drill.proofs.running_match.RunningMatch.drop_client.Goals as goal

pub returns-clause-runs : goal.returns-clause-runs
returns-clause-runs g c =
    rw (← c.self.view_is)
    (drop_runs _ _ _ _ _ _ _ (subst IsWhole (sym c.self.view_is) c.requires.whole)
    c.drop_client-leaving.ensures.answer c.drop_client-leaving.ensures.after)
