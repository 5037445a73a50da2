-- Typed rules, and the map of a file for them.
use Rattle.std.specs.Prelude.{ℕ, List, [], ◌∷◌, ◌++◌, Option, None, Some, Result, Ok, Err, length}
use Rattle.std.specs.Prelude.{codes, unwrap_or}
use Rattle.std.specs.Fmt.{decimal}
use Rattle.base.specs.Steps.{◌>>=◌}
use Rattle.rule_traits.specs.declared.fault.RuleFault.{RuleFault}
use Rattle.rule_traits.specs.Fault as rule
use Rattle.rule_traits.specs.declared.kind.Kind.{Kind}
use Rattle.rule_traits.specs.declared.skipped.Skipped.{Skipped}
use Rattle.rule_traits.specs.Typed.{typed}
use Rattle.game_model.specs.declared.map.Map.{Map}
use Rattle.map_grid.specs.declared.fault.MapFault.{MapFault}
use Rattle.map_grid.specs.Fault as map
use Rattle.map_grid.specs.MapOf.{map_of}
use Rattle.command_answers.specs.Step.{Step}
use Rattle.rule_commands.specs.RuleFiles.{fault_reply, resolved_rules}

abbrev pub typed_step :
    List (List ℕ) → Result (List Kind × List Skipped) RuleFault → Step (List Kind × List Skipped)
typed_step names (Ok made) = Ok made
typed_step names (Err fault) = Err (fault_reply names (rule.place_of fault) (rule.cause_of fault))

-- The kinds of rule files and what was passed over, or the first fault: those in lines, in merging
-- and in traits.
unfoldable pub typed_rules : (names contents : List (List ℕ)) → Step (List Kind × List Skipped)
typed_rules names contents = do
  forest ← resolved_rules names contents
  typed_step names (typed forest)

abbrev pub made_step : List ℕ → Result Map MapFault → Step Map
made_step name (Ok made) = Ok made
made_step name (Err fault) =
    Err (fault_reply (name ∷ []) (map.place_of fault) (map.cause_of fault))

-- The map of a file for these kinds, or its first fault: those in its lines, in merging, and then
-- those of a map. It is read alone, as its own only file.
unfoldable pub map_step : List Kind → (name bytes : List ℕ) → Step Map
map_step kinds name bytes = do
  forest ← resolved_rules (name ∷ []) (bytes ∷ [])
  made_step name (map_of kinds forest)

-- The same, where a map is named. Its content is there then.
abbrev pub optional_map : List Kind → Option (List ℕ) → Option (List ℕ) → Step (Option Map)
optional_map kinds None bytes = Ok None
optional_map kinds (Some name) bytes = do
  made ← map_step kinds name (unwrap_or bytes [])
  Ok (Some made)

-- A map: its size, and how many actors it has.
unfoldable pub map_line : Map → List ℕ
map_line m =
    codes "map " ++ decimal m.width ++ codes " " ++ decimal m.height
    ++ codes " actors " ++ decimal (length m.starts) ++ codes "\n"

abbrev pub map_lines : Option Map → List ℕ
map_lines None = []
map_lines (Some m) = map_line m
