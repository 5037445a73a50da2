use Rattle.std.specs.HashMap.{get}
use Rattle.std.specs.Str.{bytes_eq}
use Rattle.yaml_merge.proofs.NodeSteps.{NamesUpTo}
use Rattle.yaml_merge.proofs.keyed_list.names_of.Given as goal

abbrev pub invariant-loop-at : goal.invariant-loop-at
invariant-loop-at l = NamesUpTo l.at l.nodes (get bytes_eq l.names)
