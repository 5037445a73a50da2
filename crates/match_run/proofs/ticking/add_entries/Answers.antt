use Rattle.std.proofs.Common.{arith}
use Rattle.match_run.proofs.TakenFrames.{entries_more}
use Rattle.match_run.proofs.ticking.add_entries.Goals as goal

pub loop-i-preserved : goal.loop-i-preserved
loop-i-preserved c =
    let far = c.loop-i.invariant in
    (entries_more _ _ _ _ _ _ (let end = far.1 in let test = c.loop-i-test.true in omega arith) far.0 c.get.ensures.value c.add_entry.ensures, far.1)
