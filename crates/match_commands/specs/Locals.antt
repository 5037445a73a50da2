-- The answer to the command `local`.
use Rattle.std.specs.Prelude.{ℕ, List, [], unwrap_or}
use Rattle.base.specs.Steps.{◌>>=◌}
use Rattle.command_words.specs.RequestPlain.{MatchPlain}
use Rattle.command_answers.specs.Step.{Step}
use Rattle.command_answers.specs.Contents.{Contents}
use Rattle.rule_commands.specs.Setups.{setup_step}
use Rattle.local_command.specs.LocalText.{local_step}

-- The lines of a local match of a script and bots over rules and a map, or the first fault: those
-- of the rules come before those of the map, and these before those of the script. The world begins
-- as the opening game of the script's seed and all clients.
abbrev pub local_match_step : MatchPlain → (bots : ℕ) → Contents → Step (List ℕ)
local_match_step query bots contents = do
  setup ← setup_step query.rules contents.rules query.map_file contents.map_file
  local_step setup query.file (unwrap_or contents.script []) bots
