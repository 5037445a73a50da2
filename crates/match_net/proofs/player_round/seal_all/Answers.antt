use Rattle.std.proofs.Common.{arith}
use Rattle.match_net.proofs.TickLemmas.{sealed_step, sealed_end}
use Rattle.match_net.proofs.player_round.seal_all.Goals as goal

pub loop-n-preserved : goal.loop-n-preserved
loop-n-preserved g c =
    sealed_step _ _ _ _ _ _ _ (omega (arith, c.loop-n-test.true)) c.loop-n.invariant
    c.in_ok-seal_one.ensures

pub returns : goal.returns
returns g c = sealed_end _ _ _ _ _ (omega (arith, c.loop-n-test.false)) c.loop-n.invariant
