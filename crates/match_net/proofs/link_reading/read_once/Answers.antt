use Rattle.match_net.proofs.TurnLemmas.{looked_around}
use Rattle.match_net.proofs.link_reading.read_once.Goals as goal

pub returns-clause-turns : goal.returns-clause-turns
returns-clause-turns g c =
    λ here given first from before start so_far.
    c.handle_next.ensures.turns here given first from before start (looked_around _ _ _ _ _ _ _ _ _ _ _ _ _ so_far c.wait_to_go_on.ensures.looks)
