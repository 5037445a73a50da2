-- The nodes of a list taken in order.
use Rattle.std.specs.Prelude.{ℕ, List, Result, Ok}
use Rattle.base.specs.Steps.{◌>>=◌}
use Rattle.yaml_lines.specs.declared.place.Place.{Place}
use Rattle.yaml_lines.specs.declared.forest.Node.{Node}
use Rattle.yaml_lines.specs.declared.forest.Forest.TheViews.{out-Node}
use Rattle.yaml_lines.specs.Trees.{Trees, none, more, trees_of}
use Rattle.map_grid.specs.declared.fault.MapFault.{MapFault}

-- What a step takes: what was made so far, and a node's key, value, place and children.
abbrev pub Step : Type 0 → Type 0
Step S = S → (key value : List ℕ) → Place → Trees → Result S MapFault

-- Each node by a step from what was made so far. Its first fault ends it.
abbrev pub each : {S : Type 0} → Step S → S → Trees → Result S MapFault
each step made none = Ok made
each step made (more key value place children rest) =
    step made key value place children >>= λ next. each step next rest

-- Such a step at a node.
abbrev pub step_at : {S : Type 0} → Step S → S → Node → Result S MapFault
step_at step made node =
    step made (out-Node node).key (out-Node node).value (out-Node node).place
    (trees_of (out-Node node).children)
