-- The sum so far with the numbers of the actors that are left is the sum of all.
use Rattle.std.proofs.Common.{◌≡◌, ◌+◌, ◌%◌, ◌^◌, drop}
use Rattle.std.specs.List.{sum_by}
use Rattle.sync_hash.specs.Kept.{actor_number}
use Rattle.sync_hash.proofs.whole_world.actors_sum.Given as goal

abbrev pub invariant-loop-actor : goal.invariant-loop-actor
invariant-loop-actor l =
    (l.sum + sum_by actor_number (drop l.actor-index l.actors)) % 2 ^ 64
    ≡ sum_by actor_number l.actors % 2 ^ 64
