use Rattle.std.proofs.Common.{Ok, Err, sym, subst, append-nil}
use Rattle.drill.specs.RunningMatch.{IsWhole}
use Rattle.drill.proofs.EventLemmas.{seal_runs}
use Rattle.drill.proofs.running_match.RunningMatch.seal.Goals as goal

pub returns-in_ok-push-in-Ok-clause-runs : goal.returns-in_ok-push-in-Ok-clause-runs
returns-in_ok-push-in-Ok-clause-runs g c =
    rw (← c.self.view_is)
    (seal_runs _ _ _ _ _ _ _ c.index_mut-peer.result.now _ (Ok c.in-Ok.frame)
    (subst IsWhole (sym c.self.view_is) c.requires.whole) (rw (← c.self.view_is) at c.requires.own)
    c.index_mut-peer.ensures.value c.in-Ok.ensures.answer c.in-Ok.ensures.after
    (rw c.of.ensures at c.in_ok-push-in-Ok.ensures.items))

pub returns-in-Err-clause-runs : goal.returns-in-Err-clause-runs
returns-in-Err-clause-runs g c =
    rw (← c.self.view_is)
    (seal_runs _ _ _ _ _ _ c.args.orders c.index_mut-peer.result.now _ (Err c.in-Err.fault)
    (subst IsWhole (sym c.self.view_is) c.requires.whole) (rw (← c.self.view_is) at c.requires.own)
    c.index_mut-peer.ensures.value c.in-Err.ensures.answer c.in-Err.ensures.after
    (sym (append-nil c.self.inside.sent.items)))
