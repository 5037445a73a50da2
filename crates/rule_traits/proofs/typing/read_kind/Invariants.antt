use Rattle.std.proofs.Common.{◌≡◌, drop}
use Rattle.yaml_lines.specs.declared.forest.Forest.TheViews.{out-Node}
use Rattle.yaml_lines.specs.Trees.{trees_of, trees_of_nodes}
use Rattle.rule_traits.specs.Typed.{each, trait_taken, plain_kind}
use Rattle.rule_traits.proofs.typing.read_kind.Given as goal

abbrev pub invariant-loop-below : goal.invariant-loop-below
invariant-loop-below l =
    each (trait_taken (trees_of l.kinds)) (l.kind, l.skipped.items) (trees_of_nodes (drop l.below-index l.below-items))
    ≡ each (trait_taken (trees_of l.kinds)) (plain_kind (out-Node l.node).key, l.initial.skipped.items) (trees_of (out-Node l.node).children)
