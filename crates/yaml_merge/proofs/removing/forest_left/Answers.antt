use Rattle.std.proofs.Common.{◌∙◌, ap, sym}
use Rattle.yaml_lines.proofs.TreeSteps.{trees_roll, trees_out}
use Rattle.yaml_merge.specs.Removing.{left_by}
use Rattle.yaml_merge.proofs.removing.forest_left.Goals as goal

pub returns : goal.returns
returns c =
    trees_roll (record { nodes = c.in_ok-nodes.nodes })
    ∙ c.in_ok-nodes.ensures {u = tt}
    ∙ ap (left_by c.args.flags.now) (sym (trees_out c.args.list))
