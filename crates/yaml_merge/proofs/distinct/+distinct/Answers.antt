use Rattle.std.proofs.Common.{◌≡◌, ◌∙◌, rules, ap, sym, subst, true}
use Rattle.std.proofs.lemmas.Result.{IfOk-weaker}
use Rattle.yaml_lines.specs.Trees.{trees_of, trees_of_nodes}
use Rattle.yaml_lines.proofs.TreeSteps.{trees_out}
use Rattle.yaml_merge.specs.Settled.{IsOnce, IsDistinct}
use Rattle.yaml_merge.proofs.distinct.+distinct.Goals as goal

pub is_distinct-returns : goal.is_distinct-returns
is_distinct-returns t c =
    let nodes = c.as_slice-nodes.result.now in
    let whole : trees_of_nodes nodes ≡ trees_of c.args.list.now = ap trees_of_nodes c.as_slice-nodes.ensures.value ∙ sym (trees_out c.args.list.now) in
    let is : c.in_ok-is_once.field-0 ≡ true = search rules in
    let once : IsOnce (trees_of_nodes nodes) = c.in_ok-is_once.ensures {u = tt} is in
    IfOk-weaker c.are_distinct.result (λ d. d ≡ true → IsOnce (trees_of_nodes nodes) → IsDistinct (trees_of_nodes nodes)) (λ d. d ≡ true → IsDistinct (trees_of c.args.list.now))
    (λ d h y. subst IsDistinct whole (h y once)) c.are_distinct.ensures
