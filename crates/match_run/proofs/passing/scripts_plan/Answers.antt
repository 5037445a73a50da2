use Rattle.std.proofs.Common.{◌∙◌, arith}
use Rattle.match_run.proofs.LocalPasses.{plays_more}
use Rattle.match_run.proofs.passing.scripts_plan.Goals as goal

pub loop-c-preserved : goal.loop-c-preserved
loop-c-preserved c =
    let far = c.loop-c.invariant in
    let end = far.1 in
    let test = c.loop-c-test.true in
    (plays_more _ _ _ _ _ (omega arith) far.0 (c.in_ok-copy.ensures ∙ c.plays.ensures.value) c.in_ok-push.ensures.ok, end)
