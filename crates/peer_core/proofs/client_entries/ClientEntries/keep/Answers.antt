use Rattle.std.proofs.Common.{◌≡◌, None, subst, sym, ap, ◌∙◌}
use Rattle.peer_core.specs.Entries.{Entries, IsByFrame, play_at}
use Rattle.peer_core.proofs.PlaysLemmas.{kept_by_frame}
use Rattle.peer_core.proofs.client_entries.ClientEntries.keep.Goals as goal

-- A play at its place keeps the plays by rising frame.
pub invariant_of-self : goal.invariant_of-self
invariant_of-self c =
    let plays = c.self.inside.plays in
    let free : play_at plays c.args.n ≡ None =
    ap (λ (own : Entries). play_at own.plays c.args.n) c.self.view_is ∙ c.requires in
    subst IsByFrame (sym c.in_ok-keep-in-Play.ensures.kept)
    (kept_by_frame (record {
      frame = c.args.n;
      orders =
          c.in-Play.orders;
    }) plays c.self.invariant free)
