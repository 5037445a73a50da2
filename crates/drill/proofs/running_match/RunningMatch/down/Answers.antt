use Rattle.std.proofs.Common.{◌<◌, ℕ, sym, subst}
use Rattle.drill.specs.RunningMatch.{IsWhole}
use Rattle.drill.proofs.RunningMatchLemmas.{peer_number}
use Rattle.drill.proofs.EventLemmas.{down_runs}
use Rattle.drill.proofs.running_match.RunningMatch.down.Goals as goal

-- The peer's clients are those of the match.
pub receive-requires : goal.receive-requires
receive-requires g c =
    let P : ℕ → Type 0 = λ n. c.args.c < n in
    subst P
    (sym (peer_number _ c.args.p c.index_mut-peer.result.now
    (subst IsWhole (sym c.self.view_is) c.requires.whole) (rw (← c.self.view_is) at c.requires.own)
    c.index_mut-peer.ensures.value).clients_are)
    (rw (← c.self.view_is) at c.requires.other)

pub returns-clause-runs : goal.returns-clause-runs
returns-clause-runs g c =
    rw (← c.self.view_is, c.receipt_outcome.ensures)
    (down_runs _ _ _ _ _ _ _ c.in-Some.entry.now c.index_mut-peer.result.now _ _
    (subst IsWhole (sym c.self.view_is) c.requires.whole) (rw (← c.self.view_is) at c.requires.own)
    c.index_mut-peer.ensures.value
    (rw c.columns-columns.ensures.value at c.in-Some.ensures)
    c.in_ok-receipt.ensures.answer c.in_ok-receipt.ensures.after)
