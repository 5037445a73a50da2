use Rattle.std.proofs.Common.{◌≡◌, [], replicate}
use Rattle.drill_words.proofs.scripts.Scripts.create.Given as goal

abbrev pub invariant-loop-client : goal.invariant-loop-client
invariant-loop-client l = l.each.items ≡ replicate l._client []
