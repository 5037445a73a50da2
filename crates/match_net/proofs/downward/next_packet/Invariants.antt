use Rattle.std.proofs.Common.{◌≡◌, ◌+◌, ◌-◌, ◌≤◌, List, None, length}
use Rattle.game_io.specs.SourceState.{SourceState}
use Rattle.order_packets.specs.declared.down.Down.{Down}
use Rattle.match_net.specs.declared.limits.TheConstants.{MAX_PLAY_BYTES}
use Rattle.match_net.specs.Downward.{InStream}
use Rattle.match_net.proofs.downward.next_packet.Given as goal

abbrev pub invariant-asking : goal.invariant-asking
invariant-asking g l =
    (l.feeder.fault ≡ None) × (l.feeder.at + length l.feeder.rest ≤ MAX_PLAY_BYTES) ×
    (l.fn.feeder.at ≡ l.feeder.at)
    × ((first : SourceState) (packets : List Down) →
    InStream first (g.I.Source.state l.fn.link) packets l.fn.feeder →
    InStream first (g.I.Source.state l.link) packets l.feeder)

abbrev pub decreases-asking : goal.decreases-asking
decreases-asking g l = MAX_PLAY_BYTES - (l.feeder.at + length l.feeder.rest)
