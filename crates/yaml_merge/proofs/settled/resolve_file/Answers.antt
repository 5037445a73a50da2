use Rattle.std.proofs.Common.{◌≡◌, ◌∙◌, rules, ap, sym, subst, true}
use Rattle.yaml_lines.specs.Trees.{trees_of, trees_of_nodes}
use Rattle.yaml_lines.proofs.TreeSteps.{trees_out}
use Rattle.yaml_merge.specs.Laws.{IsPlainTop, IsSmall}
use Rattle.yaml_merge.specs.Settled.{IsDistinct}
use Rattle.yaml_merge.proofs.PlainSteps.{plain_settled_top}
use Rattle.yaml_merge.proofs.StaysSteps.{settled_stays}
use Rattle.yaml_merge.proofs.settled.resolve_file.Goals as goal

pub returns-then-branch-clause-done : goal.returns-then-branch-clause-done
returns-then-branch-clause-done c =
    let file = trees_of c.args.file in
    let whole : trees_of_nodes c.as_slice.result.now ≡ file = ap trees_of_nodes c.as_slice.ensures.value ∙ sym (trees_out c.args.file) in
    let plain : IsPlainTop file = subst IsPlainTop whole (c.are_plain.ensures.plain c.if-are_plain.true) in
    let small : IsSmall file = subst IsSmall whole (c.are_plain.ensures.small c.if-are_plain.true) in
    let is : c.in_ok-is_distinct.field-0 ≡ true = search rules in
    let distinct : IsDistinct file = c.in_ok-is_distinct.ensures {u = tt} is in
    settled_stays file (plain_settled_top file plain distinct) small
