-- The sum so far with the numbers that are left is the sum of all.
use Rattle.std.proofs.Common.{◌≡◌, ◌+◌, ◌%◌, ◌^◌, drop}
use Rattle.sync_hash.specs.Kept.{numbers_sum}
use Rattle.sync_hash.proofs.actor_numbers.ActorNumbers.sum.Given as goal

abbrev pub invariant-loop-kept : goal.invariant-loop-kept
invariant-loop-kept l =
    (l.sum + numbers_sum (drop l.kept-index l.kept-items)) % 2 ^ 64 ≡ numbers_sum l.kept-items % 2 ^ 64
