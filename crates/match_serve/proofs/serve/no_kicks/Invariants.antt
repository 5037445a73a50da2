use Rattle.std.proofs.Common.{◌≡◌, ◌≤◌, false, replicate}
use Rattle.match_serve.proofs.serve.no_kicks.Given as goal

abbrev pub invariant-loop-client : goal.invariant-loop-client
invariant-loop-client l = (l.kicked.items ≡ replicate l._client false) × (l._client ≤ l.clients)
