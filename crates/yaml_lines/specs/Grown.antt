-- A forest that grows line by line: the nodes at level 0 that are complete, and the open nodes,
-- each of which is the last child of the one before it.
use Rattle.std.specs.Prelude.{ℕ, ◌+◌, List, [], ◌∷◌, ◌++◌, length}
use Rattle.yaml_lines.specs.declared.growing.Open.{Open}
use Rattle.yaml_lines.specs.declared.growing.Growing.{Growing}
use Rattle.yaml_lines.specs.Kept.{Kept}
use Rattle.yaml_lines.specs.Trees.{trees_of_nodes, flat}

-- An open node at this level, with no children.
abbrev pub opened : ℕ → Open → Kept
opened level node = record { words = record { level = level; key = node.key; value = node.value }; place = node.place }

-- The open nodes and their children so far, in preorder.
abbrev pub flat_open : ℕ → List Open → List Kept
flat_open level [] = []
flat_open level (node ∷ rest) = opened level node ∷ (flat (level + 1) (trees_of_nodes node.nodes.items) ++ flat_open (level + 1) rest)

-- All nodes so far, in preorder.
unfoldable pub flat_grown : Growing → List Kept
flat_grown grown = flat 0 (trees_of_nodes grown.done.items) ++ flat_open 0 grown.open.items

-- How many nodes are open: the greatest level that the next node may have.
abbrev pub height : Growing → ℕ
height grown = length grown.open.items
