use Rattle.std.proofs.Common.{sym, subst}
use Rattle.drill.specs.RunningMatch.{IsWhole}
use Rattle.drill.proofs.EventLemmas.{up_runs}
use Rattle.drill.proofs.running_match.RunningMatch.up.Goals as goal

pub returns-clause-runs : goal.returns-clause-runs
returns-clause-runs g c =
    rw (← c.self.view_is, c.answer_outcome.ensures)
    (up_runs _ _ _ _ _ _ c.in-Some.sent _ (subst IsWhole (sym c.self.view_is) c.requires.whole)
    (rw c.deref.ensures.value at c.in-Some.ensures) c.in_ok-answer.ensures.answer c.in_ok-answer.ensures.after)
