use Rattle.std.proofs.Common.{◌∙◌, ap, sym}
use Rattle.yaml_lines.specs.Trees.{trees_of_nodes}
use Rattle.yaml_lines.proofs.TreeSteps.{trees_out}
use Rattle.yaml_merge.specs.Places.{place_in}
use Rattle.yaml_merge.proofs.PlainSteps.{some_given}
use Rattle.yaml_merge.proofs.keyed_list.KeyedList.of_file.Goals as goal

pub invariant_of-result : goal.invariant_of-result
invariant_of-result c = record {
  named = λ name. some_given _ _ _ c.in-Some.is (c.in_ok-names.ensures {u = tt}).named name
      ∙ ap (place_in name) (ap trees_of_nodes c.as_slice-nodes.ensures.value ∙ sym (trees_out c.args.file.now) ∙ sym (c.in_ok-forest.ensures {u = tt}));
}
