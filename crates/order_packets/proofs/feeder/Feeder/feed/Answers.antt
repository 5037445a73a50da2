use Rattle.order_packets.proofs.FeedLemmas.{given_fed_if}
use Rattle.order_packets.proofs.feeder.Feeder.feed.Goals as goal

pub returns-clause-stream : goal.returns-clause-stream
returns-clause-stream g c =
    λ all given has.
    given_fed_if g.P.Packet.at g.P.Packet.payload all given c.args.self.now c.append.new.self c.args.piece.now
    c.append.result c.append.ensures.ok has
