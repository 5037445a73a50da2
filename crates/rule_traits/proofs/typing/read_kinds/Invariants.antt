use Rattle.std.proofs.Common.{◌≡◌, drop, []}
use Rattle.yaml_lines.specs.Trees.{trees_of, trees_of_nodes}
use Rattle.rule_traits.specs.Typed.{each, kind_taken}
use Rattle.rule_traits.proofs.typing.read_kinds.Given as goal

abbrev pub invariant-loop-node : goal.invariant-loop-node
invariant-loop-node l =
    each (kind_taken (trees_of l.kinds)) (l.made.items, l.skipped.items) (trees_of_nodes (drop l.node-index l.node-items))
    ≡ each (kind_taken (trees_of l.kinds)) ([], []) (trees_of l.forest)
