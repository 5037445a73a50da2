use Rattle.std.proofs.Common.{arith}
use Rattle.match_serve.proofs.SplitLemmas.{plan_more}
use Rattle.match_serve.proofs.opening.free_plan.Goals as goal

pub loop-client-preserved : goal.loop-client-preserved
loop-client-preserved c =
    let test = c.loop-client-test.true in
    (plan_more _ _ _ c.loop-client.invariant.0 c.in_ok-push.ensures.ok, omega arith)
