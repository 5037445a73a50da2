use Rattle.std.proofs.Common.{subst}
use Rattle.std.specs.Prelude.{Option}
use Rattle.match_net.specs.declared.coming_packet.ComingPacket.{ComingPacket}
use Rattle.match_net.specs.Downward.{FoundMeans}
use Rattle.match_net.proofs.downward.next_packet.Goals as goal

pub returns-in-Ok-Some-clause-means : goal.returns-in-Ok-Some-clause-means
returns-in-Ok-Some-clause-means g c =
    λ first packets stream.
    subst (λ (a : Option ComingPacket). FoundMeans first (g.I.Source.state c.try_next.new.link) packets
    c.try_next.new.feeder a) c.in-Ok-Some.field-0-is
    (c.in-Ok-Some.ensures.means first packets (c.asking.invariant.3 first packets stream))
