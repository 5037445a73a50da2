use Rattle.std.proofs.Common.{subst, sym}
use Rattle.drill.specs.RunningMatch.{IsWhole}
use Rattle.drill.proofs.EventLemmas.{tick_runs}
use Rattle.drill.proofs.running_match.RunningMatch.tick.Goals as goal

pub returns-clause-runs : goal.returns-clause-runs
returns-clause-runs g c =
    rw (← c.self.view_is)
    (tick_runs _ _ _ _ _ c.index_mut-peer.result.now _ _ (subst IsWhole (sym c.self.view_is) c.requires.whole)
    (rw (← c.self.view_is) at c.requires.own) c.index_mut-peer.ensures.value
    c.tick-answer.ensures.answer c.tick-answer.ensures.after)
