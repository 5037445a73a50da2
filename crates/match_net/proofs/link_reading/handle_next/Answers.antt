use Rattle.match_net.proofs.TurnLemmas.{after_handling, after_more}
use Rattle.match_net.proofs.link_reading.handle_next.Goals as goal

pub returns-in-Ok-Some-clause-turns : goal.returns-in-Ok-Some-clause-turns
returns-in-Ok-Some-clause-turns g c =
    λ here given first from before start so_far.
    after_handling _ here given first _ from _ before _ _ start _ _ _ _ c.in-Ok-Some.packet _ so_far _ c.in-Ok-Some.field-0-is c.in-Ok-Some.ensures.answer
    (c.in-Ok-Some.ensures.stream _ _ so_far.stream) c.handle_packet.ensures.handles

pub returns-in-Ok-None-clause-turns : goal.returns-in-Ok-None-clause-turns
returns-in-Ok-None-clause-turns g c =
    λ here given first from before start so_far.
    after_more _ here given first _ _ from _ _ before _ start _ _ _ _ _ so_far _ c.in-Ok-None.field-0-is c.in-Ok-None.ensures.answer c.take_more.ensures
