use Rattle.std.proofs.Common.{arith}
use Rattle.match_serve.proofs.LeaveLemmas.{gone_more, gone_all, gone_once}
use Rattle.match_serve.proofs.leaving.leave_all.Goals as goal

pub loop-c-preserved : goal.loop-c-preserved
loop-c-preserved g c = gone_more _ _ _ _ _ _ c.loop-c.invariant c.let_go.ensures.pass c.let_go.ensures.leaves

pub returns-clause-gone : goal.returns-clause-gone
returns-clause-gone g c =
    let test = c.loop-c-test.false in
    gone_all _ _ _ _ _ c.loop-c.invariant (omega arith)

pub returns-clause-once : goal.returns-clause-once
returns-clause-once g c = λ all d below left.
    let test = c.loop-c-test.false in
    gone_once _ _ _ _ _ c.loop-c.invariant (omega arith) all d below left
