use Rattle.match_net.proofs.AheadLemmas.{around_on, may_around, step_on}
use Rattle.match_net.proofs.waiting.wait_to_go_on.Goals as goal

pub returns-then-may_go_on-clause-step : goal.returns-then-may_go_on-clause-step
returns-then-may_go_on-clause-step g c = step_on _ _ _ _ c.may_go_on.ensures.looks c.loop-look.invariant.3

pub loop-look-preserved : goal.loop-look-preserved
loop-look-preserved g c =
    let far = c.loop-look.invariant in
    let looks = c.may_go_on.ensures.looks in
    (c.may_go_on.ensures.pass, around_on _ _ _ _ far.1 looks, may_around _ _ _ looks far.2, step_on _ _ _ _ looks far.3)
