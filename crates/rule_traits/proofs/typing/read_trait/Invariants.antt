use Rattle.std.proofs.Common.{◌≡◌, drop}
use Rattle.yaml_lines.specs.Trees.{trees_of, trees_of_nodes}
use Rattle.rule_traits.specs.Typed.{each, field_taken, plain}
use Rattle.rule_traits.proofs.typing.read_trait.Given as goal

abbrev pub invariant-loop-node : goal.invariant-loop-node
invariant-loop-node l =
    each (field_taken (trees_of l.kinds)) (l.value, l.skipped.items) (trees_of_nodes (drop l.node-index l.node-items))
    ≡ each (field_taken (trees_of l.kinds)) (plain l.fn.known, l.initial.skipped.items) (trees_of l.fields)
