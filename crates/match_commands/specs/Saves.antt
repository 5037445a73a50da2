-- The answers to the commands `save` and `continue`.
use Rattle.std.specs.Prelude.{ℕ, List, [], unwrap_or}
use Rattle.base.specs.Steps.{◌>>=◌}
use Rattle.command_words.specs.RequestPlain.{MatchPlain}
use Rattle.command_answers.specs.Contents.{Contents}
use Rattle.command_answers.specs.Reply.{Reply}
use Rattle.command_answers.specs.Step.{Step}
use Rattle.save_commands.specs.Saves.{save_step, continue_step}
use Rattle.rule_commands.specs.Numbers.{numbered_setup_step}

-- The reply to `save`, which writes the file `to`, or the first fault: those of the rules and the
-- map come before those of the replay.
abbrev pub saved_step : MatchPlain → (frames : ℕ) → (to : List ℕ) → Contents → Step Reply
saved_step query frames to contents = do
  made ← numbered_setup_step query.rules query.map_file contents
  save_step query.file frames to made.1 made.0 (unwrap_or contents.replay [])

-- The reply to `continue`, or the first fault: those of the rules and the map come before those of
-- the save, and these before those of the replay.
abbrev pub continued_step : MatchPlain → (save : List ℕ) → Contents → Step Reply
continued_step query save contents = do
  made ← numbered_setup_step query.rules query.map_file contents
  continue_step save query.file made.1 made.0 (unwrap_or contents.first [])
      (unwrap_or contents.replay [])
