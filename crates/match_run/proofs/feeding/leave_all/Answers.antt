use Rattle.std.proofs.Common.{true, arith}
use Rattle.match_run.specs.Feeding.{HasEnded}
use Rattle.match_run.proofs.BotPasses.{ended_more, all_bots}
use Rattle.match_run.proofs.feeding.leave_all.Goals as goal

pub loop-i-preserved : goal.loop-i-preserved
loop-i-preserved g c =
    let first = c.clients-first.ensures.value in
    let table = c.requires.table in
    let test = c.loop-i-test.true in
    ended_more _ _ _ _ _ _ _ _ c.loop-i.invariant c.leave-answer.ensures.pass (omega arith) (omega arith) c.leave-answer.ensures.left

pub returns-clause-ended : goal.returns-clause-ended
returns-clause-ended g c plays fed =
    let test = c.loop-i-test.false in
    all_bots _ _ c.args.table.now (λ k part. HasEnded (record { plays = plays k; left = true }) part) _ _ c.loop-i.i c.requires.table (omega arith) (c.loop-i.invariant.bots plays fed)
