-- What a match stands on, by rule files and a map.
use Rattle.std.specs.Prelude.{ℕ, List, [], Option, None, Some, Ok, unwrap_or}
use Rattle.base.specs.Steps.{◌>>=◌}
use Rattle.rule_traits.specs.declared.kind.Kind.{Kind}
use Rattle.game_model.specs.declared.map.Map.{Map}
use Rattle.game_model.specs.Setup.{Setup, bare_map}
use Rattle.command_answers.specs.Step.{Step}
use Rattle.rule_commands.specs.Maps.{typed_rules, map_step}

-- The map of a file for these kinds, or the bare map, where no file is named. The content of a named
-- one is there.
abbrev pub map_or_bare : List Kind → Option (List ℕ) → Option (List ℕ) → Step Map
map_or_bare kinds None bytes = Ok bare_map
map_or_bare kinds (Some name) bytes = map_step kinds name (unwrap_or bytes [])

-- The rules and the map, by their names and contents, or the first fault: those of the rules come
-- before those of the map. No rule files make no kinds.
unfoldable pub setup_step :
    (names contents : List (List ℕ)) → (map_file bytes : Option (List ℕ)) → Step Setup
setup_step names contents map_file bytes = do
  made ← typed_rules names contents
  m ← map_or_bare made.0 map_file bytes
  Ok (record { rules = made.0; map = m })
