-- Those so far and those among the cells that are left are all.
use Rattle.std.proofs.Common.{◌≡◌, ◌+◌, ◌≤◌, drop}
use Rattle.sync_hash.specs.Kept.{ore_cells}
use Rattle.sync_hash.proofs.ore_bytes.ore_cells.Given as goal

abbrev pub invariant-loop-bales : goal.invariant-loop-bales
invariant-loop-bales l =
    record {
      rest : l.with_ore + ore_cells (drop l.bales-index l.cells) ≡ ore_cells l.cells;
      limit : l.with_ore ≤ l.bales-index;
    }
