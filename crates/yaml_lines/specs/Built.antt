-- The forest of lines: each line joins the forest of the lines above it, as a child of the nearest
-- of them whose level is one less.
use Rattle.std.specs.Prelude.{ℕ, zero, suc, Bool, true, false, List, [], ◌∷◌, if◌then◌else◌, Option}
use Rattle.std.specs.Prelude.{Some, None, Result, Ok, Err}
use Rattle.yaml_lines.specs.declared.fault.LineFault.{LineFault}
use Rattle.yaml_lines.specs.Kept.{Kept, kept_lines, first_line_fault}
use Rattle.yaml_lines.specs.Trees.{Trees, none, more}

abbrev pub is_empty : Trees → Bool
is_empty none = true
is_empty (more key value place children rest) = false

-- A line, without children, after the last node of a list.
abbrev pub added_last : Kept → Trees → Trees
added_last line none = more line.words.key line.words.value line.place none none
added_last line (more key value place children rest) = more key value place children (added_last line rest)

-- A list whose last node has its children changed by `step`.
abbrev pub below_last : (step : Trees → Trees) → Trees → Trees
below_last step none = none
below_last step (more key value place children rest) =
    if is_empty rest then more key value place (step children) rest else more key value place children (below_last step rest)

-- A forest changed by `step` at a level: at level 0 its own list is changed, and at each deeper
-- level the children of the last node of the level above.
abbrev pub at_level : ℕ → (step : Trees → Trees) → Trees → Trees
at_level zero step trees = step trees
at_level (suc level) step trees = at_level level (below_last step) trees

-- A forest that lines have joined in order, each at its level.
abbrev pub joined_by : Trees → List Kept → Trees
joined_by trees [] = trees
joined_by trees (line ∷ rest) = joined_by (at_level line.words.level (added_last line) trees) rest

-- The forest whose nodes in preorder are these lines.
abbrev pub forest_of : List Kept → Trees
forest_of lines = joined_by none lines

-- The first fault of a file where it has one, else the forest of its kept lines.
abbrev pub parsed_by : Option LineFault → List Kept → Result Trees LineFault
parsed_by None lines = Ok (forest_of lines)
parsed_by (Some fault) lines = Err fault

unfoldable pub parsed : (file : ℕ) → List ℕ → Result Trees LineFault
parsed file bytes = parsed_by (first_line_fault file bytes) (kept_lines file bytes)
