use Rattle.std.proofs.Common.{◌≡◌, drop}
use Rattle.yaml_lines.specs.Trees.{Trees, trees_of, trees_of_nodes}
use Rattle.yaml_merge.specs.Resolving.{removed_tops}
use Rattle.yaml_merge.proofs.removing.has_removals.Given as goal

abbrev pub invariant-loop-node : goal.invariant-loop-node
invariant-loop-node l =
    (list : Trees) → removed_tops (trees_of_nodes (drop l.node-index l.node-items)) list ≡ removed_tops (trees_of l.tops) list
