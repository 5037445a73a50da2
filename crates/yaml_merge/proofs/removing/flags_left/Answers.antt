use Rattle.std.proofs.Common.{◌∙◌, ap, sym, arith}
use Rattle.yaml_lines.specs.declared.forest.Forest.TheViews.{out-Forest}
use Rattle.yaml_lines.specs.Trees.{trees_of, trees_of_nodes}
use Rattle.yaml_lines.proofs.TreeSteps.{trees_out}
use Rattle.yaml_merge.specs.Removing.{left_by}
use Rattle.yaml_merge.specs.Resolving.{removed_tops}
use Rattle.yaml_merge.proofs.RemoveSteps.{left_all}
use Rattle.yaml_merge.proofs.TopSteps.{width_forest}
use Rattle.yaml_merge.proofs.removing.flags_left.Goals as goal

pub loop-node-init : goal.loop-node-init
loop-node-init c =
    let list = c.args.list.now.forest in
    let tops = trees_of c.args.tops.now in
    ap (λ l. removed_tops (trees_of_nodes l) (left_by c.in_ok-flags.flags.items (trees_of list))) c.deref-node-items.ensures.value
    ∙ ap (λ t. removed_tops t (left_by c.in_ok-flags.flags.items (trees_of list))) (sym (trees_out c.args.tops.now))
    ∙ ap (λ f. removed_tops tops (left_by f (trees_of list))) (c.in_ok-flags.ensures {u = tt})
    ∙ ap (removed_tops tops) (left_all (trees_of list) c.len.result (omega (arith, c.len.ensures, width_forest list, (out-Forest list).nodes.ok.0)))
