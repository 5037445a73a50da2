-- The first datagrams were sent.
use Rattle.std.proofs.Common.{◌≤◌}
use Rattle.datagram_link.specs.Grams.{data_grams}
use Rattle.datagram_link.proofs.SendingLemmas.{SentFirst}
use Rattle.datagram_link.proofs.end.send_due.Given as goal

abbrev pub invariant-loop-i : goal.invariant-loop-i
invariant-loop-i g l =
    record {
      sent : SentFirst (data_grams l.sender.acknowledged l.sender.waiting) l.i
          (g.P.Post.state l.fn.post).held (g.P.Post.state l.post).held;
      later : (g.P.Post.state l.fn.post).faults ≤ (g.P.Post.state l.post).faults;
    }
