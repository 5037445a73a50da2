-- The sum so far with the numbers of the actors that are left is the sum of all.
use Rattle.std.proofs.Common.{◌≡◌, ◌+◌, ◌%◌, ◌^◌, drop}
use Rattle.std.specs.List.{sum_by}
use Rattle.sync_hash.specs.Kept.{actor_number}
use Rattle.tick_core.proofs.summing.actors_sum.Given as goal

abbrev pub invariant-loop-i : goal.invariant-loop-i
invariant-loop-i l =
    (l.sum + sum_by actor_number (drop l.i l.table.actors)) % 2 ^ 64
    ≡ sum_by actor_number l.table.actors % 2 ^ 64
