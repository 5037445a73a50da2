-- The answers to the commands `replay` and `migrate`.
use Rattle.std.specs.Prelude.{ℕ, List, [], unwrap_or}
use Rattle.base.specs.Steps.{◌>>=◌}
use Rattle.command_words.specs.RequestPlain.{MatchPlain}
use Rattle.command_answers.specs.Contents.{Contents}
use Rattle.command_answers.specs.Reply.{Reply}
use Rattle.command_answers.specs.Step.{Step}
use Rattle.rule_commands.specs.Numbers.{numbered_setup_step}
use Rattle.replay_commands.specs.Replays.{replay_step, migrate_step}

-- The reply to `replay`, or the first fault: those of the rules and the map come before those of
-- the replay.
abbrev pub replayed_step : MatchPlain → Contents → Step Reply
replayed_step query contents = do
  made ← numbered_setup_step query.rules query.map_file contents
  replay_step query.file made.1 made.0 (unwrap_or contents.replay [])

-- The same to `migrate`, which writes the file `to`.
abbrev pub migrated_step : MatchPlain → (to : List ℕ) → Contents → Step Reply
migrated_step query to contents = do
  made ← numbered_setup_step query.rules query.map_file contents
  migrate_step query.file to made.1 made.0 (unwrap_or contents.replay [])
