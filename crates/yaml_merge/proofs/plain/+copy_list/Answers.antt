use Rattle.std.proofs.Common.{◌∙◌, ap, sym, arith}
use Rattle.std.proofs.lemmas.List.{take_all}
use Rattle.yaml_lines.specs.Trees.{trees_of, trees_of_nodes}
use Rattle.yaml_lines.proofs.TreeSteps.{trees_roll, trees_out}
use Rattle.yaml_merge.proofs.PlainSteps.{copied_next}
use Rattle.yaml_merge.proofs.plain.+copy_list.Goals as goal

pub loop-node-preserved : goal.loop-node-preserved
loop-node-preserved t c =
    copied_next c.deref-node-items.result.now c.loop-node.nodes.items c.loop-node.node-index c.node-item.result c.in_ok-node_over.field-0 (trees_of c.in_ok-children.children)
    (omega arith) c.node-item.is (c.in_ok-node_over.ensures {u = tt}) (c.in_ok-children.ensures {u = tt}) c.loop-node.invariant _ (c.in_ok-push.ensures {u = tt}).items

pub returns : goal.returns
returns t c =
    trees_roll (record { nodes = c.loop-node.nodes })
    ∙ c.loop-node.invariant
    ∙ ap trees_of_nodes (take_all c.loop-node.node-index c.deref-node-items.result.now (omega arith))
    ∙ ap trees_of_nodes c.deref-node-items.ensures.value
    ∙ sym (trees_out c.args.list.now)
