use Rattle.order_packets.proofs.FeedLemmas.{given_next}
use Rattle.order_packets.proofs.feeder.Feeder.next.Goals as goal

pub returns-clause-stream : goal.returns-clause-stream
returns-clause-stream g c =
    λ all given has.
    given_next g.P.Packet.at g.P.Packet.payload all given c.args.self.now c.take_next.new.self
    c.take_next.result c.take_next.ensures.answer c.take_next.ensures.spelled has
