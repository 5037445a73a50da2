use Rattle.std.proofs.Common.{refl, arith}
use Rattle.match_run.proofs.Splitting.{enough_left, split_more}
use Rattle.match_run.proofs.passing.split_passes.Goals as goal

pub split-pass-requires-clause-share : goal.split-pass-requires-clause-share
split-pass-requires-clause-share c =
    let far = c.loop-client.invariant in
    let most = c.requires.most in
    let test = c.loop-client-test.true in
    enough_left _ _ _ _ _ _ far.0 (omega arith) c.requires.share

pub loop-client-preserved : goal.loop-client-preserved
loop-client-preserved c =
    let far = c.loop-client.invariant in
    let past = far.1 in
    let split = c.split-pass.ensures in
    (split_more _ _ _ _ _ _ _ _ (record { client = c.loop-client.client; pass = c.split-pass.result }) far.1 far.0 split.pass split.kept split.other split.given refl c.in_ok-push.ensures.items, (omega arith))
