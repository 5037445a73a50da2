-- What files make: rules, a map and their number, or the first fault.
use Rattle.std.specs.Prelude.{ℕ, ◌+◌, List, [], ◌∷◌, ◌++◌, Option, None, Some, Result, Ok, Err}
use Rattle.base.specs.Steps.{◌>>=◌}
use Rattle.yaml_lines.specs.declared.fault.LineFault.{LineFault}
use Rattle.yaml_lines.specs.Built.{parsed}
use Rattle.yaml_lines.specs.Printed.{printed}
use Rattle.yaml_lines.specs.Trees.{Trees, flat}
use Rattle.yaml_merge.specs.declared.fault.MergeFault.{MergeFault}
use Rattle.yaml_merge.specs.Resolving.{resolved_files}
use Rattle.rule_traits.specs.declared.fault.RuleFault.{RuleFault}
use Rattle.rule_traits.specs.declared.kind.Kind.{Kind}
use Rattle.rule_traits.specs.declared.skipped.Skipped.{Skipped}
use Rattle.rule_traits.specs.Typed.{typed}
use Rattle.game_model.specs.declared.map.Map.{Map}
use Rattle.game_model.specs.Setup.{Setup, bare_map}
use Rattle.map_grid.specs.declared.fault.MapFault.{MapFault}
use Rattle.map_grid.specs.MapOf.{map_of}
use Rattle.sync_hash.specs.Fnv.{fnv_of}
use Rattle.setup_files.specs.declared.making.Made.{Made}
use Rattle.setup_files.specs.declared.setup_fault.Part.{Part}
use Rattle.setup_files.specs.declared.setup_fault.Part.TheVariants as part
use Rattle.setup_files.specs.declared.setup_fault.SetupFault.{SetupFault}
use Rattle.setup_files.specs.Faults.{lines_fault, merging_fault, rules_fault, map_fault}

-- A value, or the first fault.
abbrev pub Read : Type 0 → Type 0
Read T = Result T SetupFault

-- ---- the tree of files

abbrev pub line_step : Part → Result Trees LineFault → Read Trees
line_step files (Ok forest) = Ok forest
line_step files (Err fault) = Err (lines_fault files fault)

-- The forests of some files, numbered from `file` on, after those of the files before. The first
-- file with a fault in its lines decides.
abbrev pub parsed_after :
    Part → (before : List Trees) → (file : ℕ) → List (List ℕ) → Read (List Trees)
parsed_after files before file [] = Ok before
parsed_after files before file (bytes ∷ contents) = do
  forest ← line_step files (parsed file bytes)
  parsed_after files (before ++ forest ∷ []) (file + 1) contents

abbrev pub parsed_files : Part → (contents : List (List ℕ)) → Read (List Trees)
parsed_files files contents = parsed_after files [] 0 contents

abbrev pub merge_step : Part → Result Trees MergeFault → Read Trees
merge_step files (Ok forest) = Ok forest
merge_step files (Err fault) = Err (merging_fault files fault)

-- The files as one resolved forest, or the first fault: those in lines come before those in
-- merging.
unfoldable pub resolved_of : Part → (contents : List (List ℕ)) → Read Trees
resolved_of files contents = do
  forests ← parsed_files files contents
  merge_step files (resolved_files forests)

-- ---- rules and map

abbrev pub kinds_step : Result (List Kind × List Skipped) RuleFault → Read (List Kind)
kinds_step (Ok made) = Ok made.0
kinds_step (Err fault) = Err (rules_fault fault)

-- The kinds of rule files.
unfoldable pub kinds_of_files : (contents : List (List ℕ)) → Read (List Kind)
kinds_of_files contents = do
  forest ← resolved_of part.Rules contents
  kinds_step (typed forest)

abbrev pub map_step : Result Map MapFault → Read Map
map_step (Ok made) = Ok made
map_step (Err fault) = Err (map_fault fault)

-- The map of a file for these kinds. It is read alone, as its own only file.
unfoldable pub map_of_file : List Kind → (bytes : List ℕ) → Read Map
map_of_file kinds bytes = do
  forest ← resolved_of part.Map (bytes ∷ [])
  map_step (map_of kinds forest)

-- The same, or the bare map, where there is no file.
abbrev pub map_or_bare : List Kind → Option (List ℕ) → Read Map
map_or_bare kinds None = Ok bare_map
map_or_bare kinds (Some bytes) = map_of_file kinds bytes

-- The rules and the map on which a match stands, or the first fault: those of the rules come before
-- those of the map. No rule files make no kinds.
unfoldable pub setup_of : (contents : List (List ℕ)) → (map_file : Option (List ℕ)) → Read Setup
setup_of contents map_file = do
  kinds ← kinds_of_files contents
  m ← map_or_bare kinds map_file
  Ok (record { rules = kinds; map = m })

-- ---- their number

-- The FNV-1a of the printed resolved rules, a zero byte, and the printed resolved map.
unfoldable pub rules_number : (rules map : List ℕ) → ℕ
rules_number rules map = fnv_of ((rules ++ 0 ∷ []) ++ map)

-- The resolved forest of files as text.
abbrev pub text_of : Part → (contents : List (List ℕ)) → Read (List ℕ)
text_of files contents = do
  forest ← resolved_of files contents
  Ok (printed (flat 0 forest))

abbrev pub map_text : Option (List ℕ) → Read (List ℕ)
map_text None = Ok []
map_text (Some bytes) = text_of part.Map (bytes ∷ [])

-- The number of rules and a map, by their files.
unfoldable pub number_of : (contents : List (List ℕ)) → (map_file : Option (List ℕ)) → Read ℕ
number_of contents map_file = do
  rules ← text_of part.Rules contents
  m ← map_text map_file
  Ok (rules_number rules m)

-- ---- both

-- What files make, or their first fault.
abbrev pub made_of : (contents : List (List ℕ)) → (map_file : Option (List ℕ)) → Read Made
made_of contents map_file = do
  setup ← setup_of contents map_file
  number ← number_of contents map_file
  Ok (record { maker = setup; number = number })
