use Rattle.std.proofs.Common.{◌≡◌, length}
use Rattle.match_run.proofs.Taking.{AllNothing}
use Rattle.match_run.proofs.ticking.nothing_taken.Given as goal

abbrev pub invariant-loop-client : goal.invariant-loop-client
invariant-loop-client l = AllNothing l.taken.items × (length l.taken.items ≡ l._client) × (l._client-end ≡ length l.scripts)
