use Rattle.std.proofs.Common.{arith}
use Rattle.match_serve.proofs.TickLemmas.{take_more, take_all}
use Rattle.match_serve.proofs.ticking.take_frame.Goals as goal

pub loop-c-preserved : goal.loop-c-preserved
loop-c-preserved g c =
    let far = c.loop-c.invariant in
    let test = c.loop-c-test.true in
    (take_more _ _ _ _ _ _ _ _ _ _ (omega arith) far.0 c.take.ensures.pass c.take.ensures.taken c.push.ensures, omega arith)

pub returns-clause-taken : goal.returns-clause-taken
returns-clause-taken g c =
    let test = c.loop-c-test.false in
    let most = c.loop-c.invariant.1 in
    take_all _ _ _ _ _ _ _ c.loop-c.invariant.0 (omega arith)
