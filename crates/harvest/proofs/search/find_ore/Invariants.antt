use Rattle.harvest.specs.Ranks.{IsLeast, IsWithin}
use Rattle.harvest.proofs.search.find_ore.Given as goal

abbrev pub invariant-loop-dy : goal.invariant-loop-dy
invariant-loop-dy l = IsLeast l.ore.width l.from (IsWithin l.ore l.from l.dy) l.best
