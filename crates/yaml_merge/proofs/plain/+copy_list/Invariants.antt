use Rattle.std.proofs.Common.{◌≡◌, take}
use Rattle.yaml_lines.specs.Trees.{trees_of_nodes}
use Rattle.yaml_merge.proofs.plain.+copy_list.Given as goal

abbrev pub invariant-loop-node : goal.invariant-loop-node
invariant-loop-node l = trees_of_nodes l.nodes.items ≡ trees_of_nodes (take l.node-index l.node-items)
