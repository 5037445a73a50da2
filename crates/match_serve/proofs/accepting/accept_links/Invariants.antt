use Rattle.match_serve.proofs.AcceptLemmas.{AcceptedSoFar}
use Rattle.match_serve.proofs.accepting.accept_links.Given as goal

abbrev pub invariant-loop-client : goal.invariant-loop-client
invariant-loop-client g l = AcceptedSoFar l.table l.invite l.fn.ends.items l.ends.items l.pass (g.N.Net.state l.fn.net) (g.N.Net.state l.net) l.pieces l.client
