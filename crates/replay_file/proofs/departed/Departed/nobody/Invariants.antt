use Rattle.std.proofs.Common.{◌≡◌, replicate, false}
use Rattle.replay_file.proofs.departed.Departed.nobody.Given as goal

abbrev pub invariant-loop-client : goal.invariant-loop-client
invariant-loop-client l = l.held.items ≡ replicate l._client false
