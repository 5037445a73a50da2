-- The numbers so far and those of the cells that are left are the numbers of all.
use Rattle.std.proofs.Common.{◌≡◌, ◌++◌, drop, length}
use Rattle.sync_hash.specs.Kept.{cell_numbers}
use Rattle.sync_hash.proofs.ore_bytes.cell_numbers.Given as goal

abbrev pub invariant-loop-place : goal.invariant-loop-place
invariant-loop-place l =
    record {
      rest : l.numbers.items ++ cell_numbers l.ore.width l.place (drop l.place l.cells) ≡ cell_numbers l.ore.width 0 l.cells;
      each : length l.numbers.items ≡ l.place;
    }
