use Rattle.shroud.specs.Spots.{AreChanged, in_row}
use Rattle.shroud.proofs.spots.change_row.Given as goal

abbrev pub invariant-loop-x : goal.invariant-loop-x
invariant-loop-x l = AreChanged l.by (in_row l.start l.x l.y l.disc) l.initial.cells l.cells
