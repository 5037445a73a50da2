use Rattle.std.proofs.Common.{◌≡◌, drop}
use Rattle.std.specs.Option.{option_copied}
use Rattle.harvest.specs.Refineries.{best_of}
use Rattle.harvest.proofs.refinery.best_of_kind.Given as goal

abbrev pub invariant-loop-listed : goal.invariant-loop-listed
invariant-loop-listed l =
    best_of l.t.actors l.a (option_copied l.best) (drop l.listed-index l.listed-items) ≡ best_of l.t.actors l.a (option_copied l.found) l.listed-items
