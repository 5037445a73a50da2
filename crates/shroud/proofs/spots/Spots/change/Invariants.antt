use Rattle.std.proofs.Common.{◌≡◌}
use Rattle.shroud.specs.Spots.{AreChanged, in_rows}
use Rattle.shroud.proofs.spots.Spots.change.Given as goal

abbrev pub invariant-loop-y : goal.invariant-loop-y
invariant-loop-y l =
    AreChanged l.by (in_rows l.initial.self.width l.initial.self.height l.client l.y l.disc)
    l.initial.self.cells l.self.cells
    × (l.self ≡ record l.initial.self { cells = l.self.cells })
