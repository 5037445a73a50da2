use Rattle.std.proofs.Common.{◌≤◌}
use Rattle.match_serve.proofs.HandLemmas.{HandedSoFar}
use Rattle.match_serve.proofs.handing.close_links.Given as goal

abbrev pub invariant-loop-c : goal.invariant-loop-c
invariant-loop-c g l = HandedSoFar l.table l.invite l.fn.pieces.items l.left.items l.fn.pass l.pass l.fn.receiver l.receiver (g.N.Net.state l.fn.net) (g.N.Net.state l.net) l.kicked l.ends l.taken l.c
    × (l.c ≤ l.invite.clients)
