use Rattle.match_run.proofs.LocalPasses.{join_more}
use Rattle.match_run.proofs.passing.join_passes.Goals as goal

pub loop-own-preserved : goal.loop-own-preserved
loop-own-preserved c =
    join_more _ _ _ _ _ _ _ c.in-Some.own _ c.loop-own.invariant c.in-Some.ensures.items c.join.ensures.pass c.join.ensures.joined c.join.ensures.mine
