use Rattle.std.proofs.Common.{◌≤◌}
use Rattle.world_units.specs.declared.cell.CPos.{CPos}
use Rattle.world_units.specs.Cells.{apart}
use Rattle.harvest.specs.Ranks.{IsRichIn}
use Rattle.harvest.proofs.search.in_row.Given as goal

abbrev pub invariant-loop-dx : goal.invariant-loop-dx
invariant-loop-dx l = (q : CPos) → IsRichIn l.ore l.y q → l.dx ≤ apart l.from.x q.x
