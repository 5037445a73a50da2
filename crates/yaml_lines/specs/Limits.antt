-- How large a forest is: how many nodes it has, and at which levels they stand.
use Rattle.std.specs.Prelude.{ℕ, ◌<◌, List, [], ◌∷◌, length}
use Rattle.yaml_lines.specs.declared.forest.Forest.{Forest}
use Rattle.yaml_lines.specs.declared.TheConstants.{MAX_LEVELS}
use Rattle.yaml_lines.specs.Kept.{Kept}
use Rattle.yaml_lines.specs.Trees.{trees_of, flat}

-- How many nodes a forest has at all depths.
abbrev pub nodes_in : Forest → ℕ
nodes_in forest = length (flat 0 (trees_of forest))

-- Each node stands at one of the levels that there are.
abbrev pub AllLow : List Kept → Type 0
AllLow [] = Unit {0}
AllLow (node ∷ rest) = (node.words.level < MAX_LEVELS) × AllLow rest

abbrev pub IsLowForest : Forest → Type 0
IsLowForest forest = AllLow (flat 0 (trees_of forest))
