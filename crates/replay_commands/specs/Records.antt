-- The file in which a drill is recorded, and what it is when it is run again.
use Rattle.std.specs.Prelude.{ℕ, List, Ok}
use Rattle.command_answers.specs.Reply.{Reply}
use Rattle.drill.specs.Record.{Progress, record_of}
use Rattle.drill_words.specs.Drill.{DrillPlain}
use Rattle.game_model.specs.Setup.{Setup}
use Rattle.replay_commands.specs.Matches.{game_match}
use Rattle.replay_commands.specs.Replays.{replayed_reply, ReplaysAs}
use Rattle.replay_file.specs.declared.replay.Replay.{Replay}
use Rattle.replay_file.specs.ReplayBytes.{replay_bytes}
use Rattle.replay_run.specs.RecordLaws.{agreed_replayed}
use Rattle.replay_run.specs.Recording.{replay_of}

-- What the events of a drill left.
abbrev pub progress_of : Setup → DrillPlain → Progress
progress_of setup drill = record_of (game_match setup drill) drill.events

-- The replay of a drill for a match with these rules: the frames that the server ticked, and after
-- each a mark with the hash of the agreed world there.
abbrev pub drill_replay : (rules : ℕ) → Setup → DrillPlain → Replay
drill_replay rules setup drill =
    replay_of (game_match setup drill) rules drill.seed (progress_of setup drill).columns
    (progress_of setup drill).ticked

-- Its bytes.
unfoldable pub drill_record : (rules : ℕ) → Setup → DrillPlain → List ℕ
drill_record rules setup drill = replay_bytes (drill_replay rules setup drill)

-- The reply to `replay` of that file: no mark differs, and the world in the end is the server's.
unfoldable pub recorded_reply : Setup → DrillPlain → Reply
recorded_reply setup drill =
    replayed_reply
    (agreed_replayed (game_match setup drill) (progress_of setup drill).columns
    (progress_of setup drill).ticked)

-- That is the reply where the file has these bytes.
abbrev pub ReplaysDrill : (rules : ℕ) → Setup → DrillPlain → (bytes : List ℕ) → Type 0
ReplaysDrill rules setup drill bytes =
    ReplaysAs rules setup bytes (λ name. Ok (recorded_reply setup drill))
