-- The sum so far with the numbers that are left is the sum of all.
use Rattle.std.proofs.Common.{◌≡◌, ◌+◌, ◌%◌, ◌^◌, drop}
use Rattle.std.specs.List.{sum_by}
use Rattle.sync_hash.proofs.ore_bytes.sum_of.Given as goal

abbrev pub invariant-loop-number : goal.invariant-loop-number
invariant-loop-number l =
    (l.sum + sum_by (λ n. n) (drop l.number-index l.numbers)) % 2 ^ 64
    ≡ sum_by (λ n. n) l.numbers % 2 ^ 64
