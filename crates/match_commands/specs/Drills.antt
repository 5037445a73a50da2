-- The answer to the command `drill`.
use Rattle.std.specs.Prelude.{◌≡◌, List, ℕ, [], Option, None, Some, Result, Ok, Err, unwrap_or}
use Rattle.base.specs.Steps.{◌>>=◌}
use Rattle.command_words.specs.RequestPlain.{MatchPlain}
use Rattle.game_io.specs.DiskState.{DiskState}
use Rattle.game_io.specs.SinkState.{SinkState}
use Rattle.drill_words.specs.declared.drill.Drill.{Drill}
use Rattle.drill_words.specs.declared.drill_fault.DrillFault.{DrillFault}
use Rattle.drill_words.specs.Drill.{DrillPlain, plain_of, read_of}
use Rattle.drill_words.specs.DrillFault.{cause_of, line_of}
use Rattle.drill.specs.Report.{report}
use Rattle.game_model.specs.Setup.{Setup}
use Rattle.command_answers.specs.declared.statuses.TheConstants.{DONE}
use Rattle.command_answers.specs.declared.stop.Stop.{Stop}
use Rattle.command_answers.specs.Reply.{Reply, done, refusal}
use Rattle.command_answers.specs.Printing.{MayPrintReply}
use Rattle.command_answers.specs.Step.{Step}
use Rattle.command_answers.specs.Stop.{PrintsStop}
use Rattle.command_answers.specs.Contents.{Contents}
use Rattle.command_answers.specs.Writing.{AnswersReply}
use Rattle.rule_commands.specs.Numbers.{numbered_setup_step}
use Rattle.rule_commands.specs.Setups.{setup_step}
use Rattle.replay_commands.specs.Matches.{game_match}
use Rattle.replay_commands.specs.Records.{drill_record, ReplaysDrill}

-- The report of a drill over rules and a map.
unfoldable pub drill_report : Setup → DrillPlain → List ℕ
drill_report setup drill = report (game_match setup drill) drill.events

-- The reply where the drill is to be recorded in the file of this name, of a match with this rules
-- number: the report, and the replay of the frames that the server ticked.
abbrev pub recording_reply : (name : List ℕ) → (number : ℕ) → Setup → DrillPlain → Reply
recording_reply name number setup drill =
    record {
      status = DONE;
      text = drill_report setup drill;
      write = Some (record { name = name; bytes = drill_record number setup drill });
    }

abbrev pub read_step : List ℕ → Result DrillPlain DrillFault → Step DrillPlain
read_step name (Ok drill) = Ok drill
read_step name (Err fault) = Err (refusal name (line_of fault) (cause_of fault))

-- The drill of these bytes, or its first fault.
abbrev pub script_step : (name bytes : List ℕ) → Step DrillPlain
script_step name bytes = read_step name (read_of bytes)

-- What a drill stands on, and the drill, or the first fault: those of the rules come before those
-- of the map, and these before those of the script.
abbrev pub prepared_step : MatchPlain → Contents → Step (Setup × DrillPlain)
prepared_step query contents = do
  setup ← setup_step query.rules contents.rules query.map_file contents.map_file
  drill ← script_step query.file (unwrap_or contents.script [])
  Ok (setup, drill)

-- The same with the rules number of the match.
abbrev pub numbered_step : MatchPlain → Contents → Step (Setup × DrillPlain × ℕ)
numbered_step query contents = do
  made ← numbered_setup_step query.rules query.map_file contents
  drill ← script_step query.file (unwrap_or contents.script [])
  Ok (made.0, drill, made.1)

-- The reply to `drill`, which is recorded where a file is named for that, or the first fault.
abbrev pub drill_step : MatchPlain → (record_file : Option (List ℕ)) → Contents → Step Reply
drill_step query None contents = do
  made ← prepared_step query contents
  Ok (done (drill_report made.0 made.1))
drill_step query (Some name) contents = do
  made ← numbered_step query contents
  Ok (recording_reply name made.2 made.0 made.1)

-- What is printed and answered for a drill in code, or for the stop before it.
abbrev pub PrintsReport : Result (Setup × Drill) Stop → ℕ → (old new : SinkState) → Type 0
PrintsReport (Ok made) status old new =
    MayPrintReply (done (drill_report made.0 (plain_of made.1))) status old new
PrintsReport (Err stop) status old new = PrintsStop stop status old new

-- The same for a drill that is recorded in the file of this name.
abbrev pub RecordsDrill :
    (name : List ℕ) → Result (Setup × Drill × ℕ) Stop → ℕ → (old new : DiskState) →
    (old_sink new_sink : SinkState) → Type 0
RecordsDrill name (Ok made) status d d' s s' =
    AnswersReply (recording_reply name made.2 made.0 (plain_of made.1)) status d d' s s'
RecordsDrill name (Err stop) status d d' s s' = PrintsStop stop status s s' × (d'.files ≡ d.files)

-- The record of such a drill is replayed as it was recorded. There is none after a stop.
abbrev pub RecordReplays : Result (Setup × Drill × ℕ) Stop → Type 0
RecordReplays (Ok made) =
    let drill = plain_of made.1 in
    ReplaysDrill made.2 made.0 drill (drill_record made.2 made.0 drill)
RecordReplays (Err stop) = ⊥
