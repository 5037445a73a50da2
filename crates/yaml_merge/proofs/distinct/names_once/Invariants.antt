use Rattle.std.specs.HashMap.{get}
use Rattle.std.specs.Str.{bytes_eq}
use Rattle.yaml_merge.proofs.DistinctSteps.{NamedSoFar}
use Rattle.yaml_merge.proofs.distinct.names_once.Given as goal

abbrev pub invariant-loop-at : goal.invariant-loop-at
invariant-loop-at l = NamedSoFar l.at l.nodes (get bytes_eq l.names)
