-- What is copied so far is a prefix of the list.
use Rattle.std.proofs.Common.{◌≡◌, take}
use Rattle.game_orders.proofs.per_client.PerClient.copy.Given as goal

abbrev pub invariant-loop-value : goal.invariant-loop-value
invariant-loop-value g l = l.held.items ≡ take l.value-index l.value-items
