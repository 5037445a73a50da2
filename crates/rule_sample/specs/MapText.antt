-- What one map text gives when it is read, resolved and taken as a map.
use Rattle.std.specs.Prelude.{ℕ, List, [], ◌∷◌, Option, Some, None, Result, Ok, Err}
use Rattle.yaml_lines.specs.declared.fault.LineFault.{LineFault}
use Rattle.yaml_lines.specs.Trees.{Trees}
use Rattle.yaml_lines.specs.Built.{parsed}
use Rattle.yaml_merge.specs.Resolving.{Outcome, resolved_files}
use Rattle.rule_traits.specs.declared.kind.Kind.{Kind}
use Rattle.game_model.specs.declared.map.Map.{Map}
use Rattle.map_grid.specs.declared.fault.MapFault.{MapFault}
use Rattle.map_grid.specs.MapOf.{map_of}

abbrev pub if_made : Result Map MapFault → Option Map
if_made (Ok made) = Some made
if_made (Err fault) = None

abbrev pub if_resolved : List Kind → Outcome → Option Map
if_resolved kinds (Ok trees) = if_made (map_of kinds trees)
if_resolved kinds (Err fault) = None

abbrev pub if_parsed : List Kind → Result Trees LineFault → Option Map
if_parsed kinds (Ok trees) = if_resolved kinds (resolved_files (trees ∷ []))
if_parsed kinds (Err fault) = None

-- The map of a text, its own only file, over these kinds; none where it has a fault.
abbrev pub map_in : List Kind → List ℕ → Option Map
map_in kinds text = if_parsed kinds (parsed 0 text)
