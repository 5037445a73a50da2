use Rattle.std.proofs.Common.{◌≡◌, ◌≤◌, length}
use Rattle.match_serve.proofs.serve.none_taken.Given as goal

abbrev pub invariant-loop-client : goal.invariant-loop-client
invariant-loop-client l = (length l.taken.items ≡ l._client) × (l._client ≤ l.clients)
