-- The number by which a replay, or a player, knows the rules and the map of its match.
use Rattle.std.specs.Prelude.{ℕ, List, [], ◌∷◌, Option, None, Some, Ok, unwrap_or}
use Rattle.base.specs.Steps.{◌>>=◌}
use Rattle.game_model.specs.Setup.{Setup}
use Rattle.setup_files.specs.Reading.{rules_number}
use Rattle.command_answers.specs.Contents.{Contents}
use Rattle.command_answers.specs.Step.{Step}
use Rattle.rule_commands.specs.RuleFiles.{yaml_step}
use Rattle.rule_commands.specs.Setups.{setup_step}

-- The printed resolved map, of its content, which is empty where no map is named.
abbrev pub printed_map : Option (List ℕ) → Option (List ℕ) → Step (List ℕ)
printed_map None bytes = Ok []
printed_map (Some name) bytes = yaml_step (name ∷ []) (unwrap_or bytes [] ∷ [])

-- The number for rules and a map, by their names and contents.
unfoldable pub number_step :
    (names contents : List (List ℕ)) → (map_file bytes : Option (List ℕ)) → Step ℕ
number_step names contents map_file bytes = do
  rules ← yaml_step names contents
  m ← printed_map map_file bytes
  Ok (rules_number rules m)

-- What a match stands on, with its rules number, or the first fault: those of the rules come before
-- those of the map.
abbrev pub numbered_setup_step :
    (names : List (List ℕ)) → (map_file : Option (List ℕ)) → Contents → Step (Setup × ℕ)
numbered_setup_step names map_file contents = do
  setup ← setup_step names contents.rules map_file contents.map_file
  number ← number_step names contents.rules map_file contents.map_file
  Ok (setup, number)
