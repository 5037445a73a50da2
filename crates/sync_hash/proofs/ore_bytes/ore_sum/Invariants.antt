-- The sum so far with the numbers of the cells that are left is the sum of all.
use Rattle.std.proofs.Common.{◌≡◌, ◌+◌, ◌%◌, ◌^◌, drop}
use Rattle.std.specs.List.{sum_by}
use Rattle.sync_hash.specs.Kept.{cell_numbers}
use Rattle.sync_hash.proofs.ore_bytes.ore_sum.Given as goal

abbrev pub invariant-loop-place : goal.invariant-loop-place
invariant-loop-place l =
    (l.sum + sum_by (λ n. n) (cell_numbers l.ore.width l.place (drop l.place l.ore.cells))) % 2 ^ 64
    ≡ sum_by (λ n. n) (cell_numbers l.ore.width 0 l.ore.cells) % 2 ^ 64
