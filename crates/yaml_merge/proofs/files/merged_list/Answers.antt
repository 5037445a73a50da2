use Rattle.yaml_lines.specs.Trees.{trees_of}
use Rattle.yaml_merge.proofs.DistinctSteps.{one_file}
use Rattle.yaml_merge.proofs.PlainSteps.{some_given}
use Rattle.yaml_merge.proofs.files.merged_list.Goals as goal

pub returns-in-Some : goal.returns-in-Some
returns-in-Some c =
    let told = c.in_ok-made.ensures {u = tt} in
    one_file c.args.files.now c.file-item.result (trees_of c.in-Some.made.forest) c.in-len1.len_at_least c.in-len1.len_below c.file-item.is
    (some_given _ _ _ c.in-Some.is told.distinct) (some_given _ _ _ c.in-Some.is told.same)
