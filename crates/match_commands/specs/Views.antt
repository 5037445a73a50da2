-- The answer to the command `view`.
use Rattle.std.specs.Prelude.{ℕ, [], unwrap_or}
use Rattle.base.specs.Steps.{◌>>=◌}
use Rattle.command_words.specs.RequestPlain.{MatchPlain}
use Rattle.command_answers.specs.Contents.{Contents}
use Rattle.command_answers.specs.Reply.{Reply}
use Rattle.command_answers.specs.Step.{Step}
use Rattle.view_command.specs.Views.{view_step}
use Rattle.rule_commands.specs.Numbers.{numbered_setup_step}

-- The reply to `view`, or the first fault: those of the rules and the map come before those of the
-- replay.
abbrev pub viewed_step : MatchPlain → (client : ℕ) → Contents → Step Reply
viewed_step query client contents = do
  made ← numbered_setup_step query.rules query.map_file contents
  view_step query.file client made.1 made.0 (unwrap_or contents.replay [])
