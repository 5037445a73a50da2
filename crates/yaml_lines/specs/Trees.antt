-- Forests as plain trees, and their nodes as one flat list.
use Rattle.std.specs.Prelude.{ℕ, ◌+◌, List, [], ◌∷◌, ◌++◌, map}
use Rattle.yaml_lines.specs.declared.place.Place.{Place}
use Rattle.yaml_lines.specs.declared.forest.Forest.{Forest}
use Rattle.yaml_lines.specs.declared.forest.Node.{Node}
use Rattle.yaml_lines.specs.declared.forest.Forest.TheOpen.{Forest-F, Node-F}
use Rattle.yaml_lines.specs.declared.forest.Forest.TheFolds.{fold-Forest, fold-Node}
use Rattle.yaml_lines.specs.Kept.{Kept}

-- A list of nodes: none, or a first node with its children, and the rest of the list.
pub data Trees : Type 0 where
  none : Trees
  more : (key value : List ℕ) → Place → (children rest : Trees) → Trees

-- Nodes one after the other.
abbrev pub stacked : List (Trees → Trees) → Trees
stacked [] = none
stacked (first ∷ rest) = first (stacked rest)

abbrev pub node_step : Node-F Trees (Trees → Trees) → Trees → Trees
node_step node rest = more node.key node.value node.place node.children rest

abbrev pub forest_step : Forest-F Trees (Trees → Trees) → Trees
forest_step forest = stacked forest.nodes.items

-- A forest as plain trees.
abbrev pub trees_of : Forest → Trees
trees_of = fold-Forest Trees (Trees → Trees) forest_step node_step

-- A node, and the rest of its list.
abbrev pub before : Node → Trees → Trees
before = fold-Node Trees (Trees → Trees) forest_step node_step

-- A list of nodes as plain trees.
abbrev pub trees_of_nodes : List Node → Trees
trees_of_nodes nodes = stacked (map before nodes)

-- The nodes in preorder, each with its level.
abbrev pub flat : ℕ → Trees → List Kept
flat level none = []
flat level (more key value place children rest) =
    record { words = record { level = level; key = key; value = value }; place = place }
    ∷ (flat (level + 1) children ++ flat level rest)
