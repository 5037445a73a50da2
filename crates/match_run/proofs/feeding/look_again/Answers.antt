use Rattle.std.proofs.Common.{arith}
use Rattle.match_run.specs.Local.{IsAll}
use Rattle.match_run.proofs.BotPasses.{looked_more, all_bots}
use Rattle.match_run.proofs.feeding.look_again.Goals as goal

pub loop-i-preserved : goal.loop-i-preserved
loop-i-preserved g c =
    let first = c.clients-first.ensures.value in
    let table = c.requires.table in
    let test = c.loop-i-test.true in
    looked_more _ _ _ _ _ _ _ _ c.loop-i.invariant c.leave-answer.ensures.pass (omega arith) (omega arith) c.leave-answer.ensures.left

pub returns-clause-bots : goal.returns-clause-bots
returns-clause-bots g c columns ended =
    let test = c.loop-i-test.false in
    all_bots _ _ c.args.table.now (λ k part. IsAll part (columns k)) _ _ c.loop-i.i c.requires.table (omega arith) (c.loop-i.invariant.bots columns ended)
