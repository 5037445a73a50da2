use Rattle.std.proofs.Common.{◌≡◌, ℕ, List, drop}
use Rattle.std.specs.Option.{option_or}
use Rattle.yaml_lines.specs.Trees.{trees_of, trees_of_nodes}
use Rattle.rule_traits.specs.Kinds.{number_from}
use Rattle.rule_traits.specs.Numbered.{number_in}
use Rattle.rule_traits.proofs.kind_names.number_kinds.Given as goal

abbrev pub invariant-loop-node : goal.invariant-loop-node
invariant-loop-node l =
    (q : List ℕ) →
    option_or (number_in l.numbers q) (number_from l.number q (trees_of_nodes (drop l.node-index l.node-items))) ≡ number_from 0 q (trees_of l.top)
