-- The answer to the command `worlds`.
use Rattle.std.specs.Prelude.{ℕ, List, [], Result, Ok, Err, unwrap_or}
use Rattle.base.specs.Steps.{◌>>=◌}
use Rattle.command_words.specs.RequestPlain.{MatchPlain, RangePlain}
use Rattle.game_io.specs.SinkState.{SinkState}
use Rattle.game_model.specs.Setup.{Setup}
use Rattle.command_answers.specs.declared.stop.Stop.{Stop}
use Rattle.command_answers.specs.Contents.{Contents}
use Rattle.command_answers.specs.Printing.{MayPrintReply}
use Rattle.command_answers.specs.Reply.{done}
use Rattle.command_answers.specs.Step.{Step, ended}
use Rattle.command_answers.specs.Stop.{PrintsStop}
use Rattle.worlds_command.specs.Worlds.{worlds_step}
use Rattle.rule_commands.specs.Numbers.{numbered_setup_step}

-- The worlds of the replay with these bytes, over what it stands on, or the first fault.
abbrev pub worlds_over : MatchPlain → RangePlain → (bytes : List ℕ) → Setup × ℕ → Step (List ℕ)
worlds_over query range bytes made =
    worlds_step query.file range.from range.to range.every made.1 made.0 bytes

-- The text of `worlds`, or the first fault: those of the rules and the map come before those of the
-- replay.
abbrev pub told_worlds : MatchPlain → RangePlain → Contents → Step (List ℕ)
told_worlds query range contents = do
  made ← numbered_setup_step query.rules query.map_file contents
  worlds_over query range (unwrap_or contents.replay []) made

-- What is printed and answered for what a replay stands on in code, or for the stop before it.
abbrev pub PrintsWorlds :
    MatchPlain → RangePlain → (bytes : List ℕ) → Result (Setup × ℕ) Stop → ℕ →
    (old new : SinkState) → Type 0
PrintsWorlds query range bytes (Ok made) status old new =
    MayPrintReply (ended (worlds_over query range bytes made) done) status old new
PrintsWorlds query range bytes (Err stop) status old new = PrintsStop stop status old new
