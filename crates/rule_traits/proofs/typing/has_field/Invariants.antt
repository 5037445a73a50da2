use Rattle.std.proofs.Common.{◌≡◌, drop}
use Rattle.yaml_lines.specs.Trees.{trees_of, trees_of_nodes}
use Rattle.rule_traits.specs.Typed.{has_field}
use Rattle.rule_traits.proofs.typing.has_field.Given as goal

abbrev pub invariant-loop-node : goal.invariant-loop-node
invariant-loop-node l = has_field l.name (trees_of_nodes (drop l.node-index l.node-items)) ≡ has_field l.name (trees_of l.fields)
