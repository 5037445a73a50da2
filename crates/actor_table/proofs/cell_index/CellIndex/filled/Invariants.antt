-- The first actors stand on their cells.
use Rattle.std.proofs.Common.{◌≡◌, take}
use Rattle.actor_table.specs.Table.{IsIndexed}
use Rattle.actor_table.proofs.cell_index.CellIndex.filled.Given as goal

abbrev pub invariant-loop-actor : goal.invariant-loop-actor
invariant-loop-actor l =
    (l.index.width ≡ l.w) × (l.index.height ≡ l.h) × IsIndexed l.index (take l.actor-index l.actors)
