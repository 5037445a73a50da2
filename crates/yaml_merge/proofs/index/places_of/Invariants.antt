use Rattle.std.specs.HashMap.{get}
use Rattle.std.specs.Str.{bytes_eq}
use Rattle.yaml_merge.proofs.IndexSteps.{FindsUpTo}
use Rattle.yaml_merge.proofs.index.places_of.Given as goal

abbrev pub invariant-loop-at : goal.invariant-loop-at
invariant-loop-at l = FindsUpTo l.at l.slots (get bytes_eq l.places)
