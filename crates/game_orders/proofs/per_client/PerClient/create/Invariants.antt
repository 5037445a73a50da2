-- So far each client has the same.
use Rattle.std.proofs.Common.{◌≡◌, replicate}
use Rattle.game_orders.proofs.per_client.PerClient.create.Given as goal

abbrev pub invariant-loop-client : goal.invariant-loop-client
invariant-loop-client g l = l.held.items ≡ replicate l._client l.value
