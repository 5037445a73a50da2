-- A node that joins a list.
use Rattle.std.proofs.Common.{◌≡◌, ℕ, ◌+◌, ◌<◌, List, length, drop, get_or, sym, ap, ◌∙◌}
use Rattle.std.proofs.lemmas.List.{drop_more}
use Rattle.yaml_lines.specs.declared.forest.Node.{Node}
use Rattle.yaml_lines.specs.declared.forest.Forest.TheViews.{out-Node}
use Rattle.yaml_lines.specs.declared.place.Place.{Place}
use Rattle.yaml_lines.specs.Trees.{Trees, none, trees_of, before, trees_of_nodes}
use Rattle.yaml_lines.proofs.TreeSteps.{before_out}
use Rattle.yaml_merge.specs.Places.{emptied}
use Rattle.yaml_merge.specs.Merging.{joined, children_at, merged_into}
use Rattle.yaml_merge.proofs.PlaceLaws.{joined_below, joined_emptied}

-- A node whose children were taken out, changed and put back.
pub joined_back : (key value : List ℕ) (place : Place) (old left taken children next : Trees) (below : Trees → Trees) →
    left ≡ emptied key old → taken ≡ children_at key old → children ≡ below taken → next ≡ joined key value place (λ _. children) left →
    next ≡ joined key value place below old
joined_back key value place old left taken children next below l t c n =
    n
    ∙ ap (joined key value place (λ _. children)) l
    ∙ joined_emptied key value place children old
    ∙ ap (λ x. joined key value place (λ _. x) old) (c ∙ ap below t)
    ∙ joined_below key value place below old

-- A node without children.
pub leaf_merged : (key value : List ℕ) (place : Place) (children old next : Trees) → children ≡ none → next ≡ joined key value place (λ below. below) old →
    next ≡ joined key value place (merged_into children) old
leaf_merged key value place children old next c n = n ∙ ap (λ t. joined key value place (merged_into t) old) (sym c)

-- One more node of the first list taken into the second.
pub merge_step : (nodes : List Node) (at : ℕ) (node : Node) (list next all : Trees) → at < length nodes → node ≡ get_or nodes at node →
    next ≡ joined (out-Node node).key (out-Node node).value (out-Node node).place (merged_into (trees_of (out-Node node).children)) list →
    merged_into (trees_of_nodes (drop at nodes)) list ≡ all → merged_into (trees_of_nodes (drop (at + 1) nodes)) next ≡ all
merge_step nodes at node list next all h n j e =
    let rest = trees_of_nodes (drop (at + 1) nodes) in
    ap (merged_into rest) j
    ∙ sym (ap (λ f. merged_into (f rest) list) (before_out node))
    ∙ ap (λ x. merged_into (before x rest) list) n
    ∙ sym (ap (λ l. merged_into (trees_of_nodes l) list) (drop_more nodes at node h))
    ∙ e
