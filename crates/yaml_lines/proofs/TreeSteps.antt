-- The equations of `trees_of` and `before`.
use Rattle.std.proofs.Common.{◌≡◌}
use Rattle.yaml_lines.specs.declared.forest.Forest.{Forest}
use Rattle.yaml_lines.specs.declared.forest.Node.{Node}
use Rattle.yaml_lines.specs.declared.forest.Forest.TheOpen.{Forest-F, Node-F}
use Rattle.yaml_lines.specs.declared.forest.Forest.TheViews.{out-Forest, out-Node, roll-Forest}
use Rattle.yaml_lines.specs.declared.forest.Forest.TheViews.{roll-Node}
use Rattle.yaml_lines.specs.declared.forest.Forest.TheFolds.{fold-roll-Forest, fold-roll-Node}
use Rattle.yaml_lines.specs.declared.forest.Forest.TheFolds.{fold_out-Forest, fold_out-Node}
use Rattle.yaml_lines.specs.Trees.{Trees, more, node_step, forest_step, trees_of, before}
use Rattle.yaml_lines.specs.Trees.{trees_of_nodes}

pub trees_roll : (x : Forest-F Forest Node) → trees_of (roll-Forest x) ≡ trees_of_nodes x.nodes.items
trees_roll = fold-roll-Forest Trees (Trees → Trees) forest_step node_step

pub trees_out : (f : Forest) → trees_of f ≡ trees_of_nodes (out-Forest f).nodes.items
trees_out = fold_out-Forest Trees (Trees → Trees) forest_step node_step

pub before_roll : (x : Node-F Forest Node) → before (roll-Node x) ≡ (λ rest. more x.key x.value x.place (trees_of x.children) rest)
before_roll = fold-roll-Node Trees (Trees → Trees) forest_step node_step

pub before_out : (n : Node) → before n ≡ (λ rest. more (out-Node n).key (out-Node n).value (out-Node n).place (trees_of (out-Node n).children) rest)
before_out = fold_out-Node Trees (Trees → Trees) forest_step node_step
