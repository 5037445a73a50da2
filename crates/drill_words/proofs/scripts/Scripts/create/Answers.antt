use Rattle.std.proofs.Common.{arith}
use Rattle.drill_words.proofs.ScriptLemmas.{none_within, none_length}
use Rattle.drill_words.proofs.scripts.Scripts.create.Goals as goal

pub invariant_of-result : goal.invariant_of-result
invariant_of-result c =
    let long = none_length _ _ c.loop-client.invariant in
    let end = c.loop-client.auto._client-end in
    let done = c.loop-client-test.false in
    let least = c.requires.least in
    let most = c.requires.most in
    (omega arith, omega arith, none_within _ _ c.loop-client.invariant)
