use Rattle.match_net.proofs.GreetingLemmas.{Waiting}
use Rattle.match_net.proofs.first_packet.greet_counted.Given as goal

abbrev pub invariant-loop-turn : goal.invariant-loop-turn
invariant-loop-turn g l = Waiting (g.I.Source.state l.fn.link) (g.I.Source.state l.link) l.fn.taken l.taken l.feeder l._turn
