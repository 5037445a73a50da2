use Rattle.std.proofs.Common.{◌≡◌, drop}
use Rattle.yaml_lines.specs.Trees.{trees_of, trees_of_nodes}
use Rattle.yaml_merge.specs.Removing.{left_by}
use Rattle.yaml_merge.specs.Resolving.{removed_tops}
use Rattle.yaml_merge.proofs.removing.flags_left.Given as goal

abbrev pub invariant-loop-node : goal.invariant-loop-node
invariant-loop-node l =
    removed_tops (trees_of_nodes (drop l.node-index l.node-items)) (left_by l.flags.items (trees_of l.list.forest))
    ≡ removed_tops (trees_of l.tops) (trees_of l.list.forest)
