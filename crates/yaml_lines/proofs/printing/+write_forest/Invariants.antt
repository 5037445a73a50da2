use Rattle.std.proofs.Common.{◌≡◌, ◌++◌, length, drop}
use Rattle.yaml_lines.specs.Printed.{printed}
use Rattle.yaml_lines.specs.Trees.{trees_of, trees_of_nodes, flat}
use Rattle.yaml_lines.proofs.printing.+write_forest.Given as goal

abbrev pub invariant-loop-node : goal.invariant-loop-node
invariant-loop-node l = record {
  indent : l.indent.items ≡ l.initial.indent.items;
  written : l.out.items ++ printed (flat (length l.initial.indent.items) (trees_of_nodes (drop l.node-index l.node-items)))
      ≡ l.initial.out.items ++ printed (flat (length l.initial.indent.items) (trees_of l.forest));
}
