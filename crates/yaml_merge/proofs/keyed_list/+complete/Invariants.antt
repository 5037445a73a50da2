use Rattle.std.proofs.Common.{◌≡◌}
use Rattle.yaml_lines.specs.Trees.{trees_of_nodes}
use Rattle.yaml_merge.specs.Slots.{standing}
use Rattle.yaml_merge.proofs.keyed_list.+complete.Given as goal

abbrev pub invariant-loop-slot : goal.invariant-loop-slot
invariant-loop-slot l = trees_of_nodes l.nodes.items ≡ standing l.yielded
