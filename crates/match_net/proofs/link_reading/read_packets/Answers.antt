use Rattle.std.proofs.Common.{arith, refl}
use Rattle.match_net.proofs.AheadLemmas.{may_still, step_begun}
use Rattle.match_net.proofs.TurnLemmas.{begun}
use Rattle.match_net.proofs.link_reading.read_packets.Goals as goal

pub loop-init : goal.loop-init
loop-init g c =
    (c.requires.pass, begun _ c.args.invite.now.rules _ _ _ _ c.args.feeder.now (omega arith) c.requires.at c.requires.fault c.requires.few c.requires.unplayed, record { same = record { queue = refl; number = refl }; own = λ own. own }, step_begun _ _ _ c.requires.unplayed)

pub returns-in-Some-read_once-clause-may : goal.returns-in-Some-read_once-clause-may
returns-in-Some-read_once-clause-may g c =
    let reads = c.in-Some-read_once.ensures.turns _ _ _ _ _ _ c.loop.invariant.1 in
    may_still _ _ reads.learns c.requires.may
