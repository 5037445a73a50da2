use Rattle.std.proofs.Common.{◌≡◌, ℕ, ◌+◌, ◌*◌, ◌≤◌, List, drop}
use Rattle.yaml_lines.specs.declared.forest.Forest.{size-Forest}
use Rattle.yaml_lines.specs.declared.forest.Node.{size-Node}
use Rattle.yaml_lines.specs.Trees.{trees_of, trees_of_nodes}
use Rattle.yaml_merge.specs.Kept.{IsClear}
use Rattle.yaml_merge.specs.Resolving.{resolved_list}
use Rattle.yaml_merge.proofs.AgainSteps.{IsAgain}
use Rattle.yaml_merge.proofs.resolving.+resolving.Given as goal

abbrev pub decreases-resolve_list : goal.decreases-resolve_list
decreases-resolve_list l = 3 * size-Forest l.list.now + 2

abbrev pub decreases-take_in : goal.decreases-take_in
decreases-take_in l = 3 * size-Node l.node.now + 1

abbrev pub decreases-join_node : goal.decreases-join_node
decreases-join_node l = 3 * size-Node l.node.now

abbrev pub invariant-resolve_list-loop-node : goal.invariant-resolve_list-loop-node
invariant-resolve_list-loop-node l = record {
  rest : (free : ℕ) (path : List (List ℕ)) → l.high ≤ free → IsClear (trees_of l.scene.tops.now.forest) l.scene.kept.now l.high path →
      resolved_list free (trees_of_nodes (drop l.node-index l.node-items)) l.room (trees_of l.scene.tops.now.forest) path l.done
      ≡ resolved_list free (trees_of l.list) l.room (trees_of l.scene.tops.now.forest) path l.initial.done;
  again : IsAgain (trees_of l.scene.tops.now.forest) l.scene.kept.now l.high l.room l.done l.before;
  rises : l.initial.high ≤ l.high;
  bound : l.initial.high ≤ l.scene.free → l.high ≤ l.scene.free;
}
