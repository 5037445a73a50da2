use Rattle.std.proofs.Common.{arith}
use Rattle.drill.proofs.OpeningLemmas.{fresh_push}
use Rattle.drill.proofs.opening.open_peers.Goals as goal

-- The next peer is the first of those that were left.
pub loop-me-preserved : goal.loop-me-preserved
loop-me-preserved g c =
    fresh_push _ _ c.loop-me.me _ _ _ _ _ _ (omega arith) c.in_ok-world.ensures.world c.in_ok-peer.ensures c.in_ok-push.ensures.items c.loop-me.invariant
