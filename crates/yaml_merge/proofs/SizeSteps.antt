-- How many levels a list of nodes has, node by node.
use Rattle.std.proofs.Common.{◌≡◌, ℕ, suc, ◌+◌, ◌<◌, max, List, length, drop, get_or, ap, ◌∙◌}
use Rattle.std.proofs.lemmas.List.{drop_more}
use Rattle.yaml_lines.specs.declared.forest.Node.{Node}
use Rattle.yaml_lines.specs.declared.forest.Forest.{Forest}
use Rattle.yaml_lines.specs.declared.forest.Forest.TheViews.{out-Node, out-Forest}
use Rattle.yaml_lines.specs.Trees.{trees_of, trees_of_nodes}
use Rattle.yaml_lines.proofs.TreeSteps.{trees_out, before_out}
use Rattle.yaml_merge.specs.Merging.{levels}

pub levels_out : (f : Forest) → levels (trees_of f) ≡ levels (trees_of_nodes (out-Forest f).nodes.items)
levels_out f = ap levels (trees_out f)

pub levels_at : (nodes : List Node) (at : ℕ) (d : Node) → at < length nodes →
    levels (trees_of_nodes (drop at nodes)) ≡ max (suc (levels (trees_of (out-Node (get_or nodes at d)).children))) (levels (trees_of_nodes (drop (at + 1) nodes)))
levels_at nodes at d h =
    ap (λ l. levels (trees_of_nodes l)) (drop_more nodes at d h)
    ∙ ap (λ g. levels (g (trees_of_nodes (drop (at + 1) nodes)))) (before_out (get_or nodes at d))

pub ruleset size_steps = (levels_out, levels_at)
