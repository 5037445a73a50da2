-- The answer to the command `serve`.
use Rattle.std.specs.Prelude.{◌≡◌, ℕ, ◌⊎◌, List, ◌++◌, Option, None, Some, Result, Ok, Err}
use Rattle.drill.specs.Text.{end_line, world_text}
use Rattle.game_io.specs.DiskState.{DiskState}
use Rattle.frame_core.specs.Column.{Column}
use Rattle.frame_core.specs.Match.{Match}
use Rattle.game_model.specs.Setup.{Setup}
use Rattle.match_net.specs.declared.invite.Invite.{Invite}
use Rattle.match_serve.specs.Passes.{columns_of}
use Rattle.replay_run.specs.Shown.{replay_head}
use Rattle.tick_core.specs.Game.{GameState, game_start, game_after, game_hash, game_summary}
use Rattle.command_words.specs.RequestPlain.{ServePlain}
use Rattle.command_answers.specs.declared.stop.Stop.{Stop}
use Rattle.command_answers.specs.Contents.{Contents}
use Rattle.command_answers.specs.Environment.{IsLater}
use Rattle.command_answers.specs.FileWrite.{OnlyChanges}
use Rattle.command_answers.specs.Reply.{done}
use Rattle.command_answers.specs.Step.{Step}
use Rattle.command_answers.specs.Stop.{PrintsStop}
use Rattle.command_answers.specs.WantedFiles.{rules_and_map}
use Rattle.link_commands.specs.Links.{WithLinks, RunsLinked, IsApart, causes_by, environment_of}
use Rattle.replay_commands.specs.Replays.{ReplaysAs}
use Rattle.serve_command.specs.Records.{RecordsBy, RecordsOut, recording_causes, served_record}
use Rattle.serve_command.specs.Serves.{ServesBy, NetFailed, IsServeDone}
use Rattle.rule_commands.specs.Numbers.{numbered_setup_step}

-- The match: its worlds begin as the opening game. They ask no lag.
abbrev pub served_match : ServePlain → Setup → Match GameState
served_match query setup =
    record {
      start = game_start setup query.seed query.clients;
      after = game_after;
      hash = game_hash;
      summary = game_summary;
      clients = query.clients;
      lag = 0;
    }

-- What each link is told, but for its client.
abbrev pub invite_of : ServePlain → (number : ℕ) → Invite
invite_of query number =
    record {
      client = 0;
      clients = query.clients;
      lag = query.lag;
      seed = query.seed;
      rules = number;
    }

-- What the files hold, or the first fault: those of the rules come before those of the map.
abbrev pub serve_step : ServePlain → Contents → Step (Setup × ℕ)
serve_step query contents = numbered_setup_step query.rules query.map_file contents

-- The match was served over that.
abbrev pub ServesOver : ServePlain → ℕ → (old new : WithLinks) → Setup × ℕ → Type 0
ServesOver query status old new made =
    ServesBy (served_match query made.0) (invite_of query made.1) status old.net new.net old.console
    new.console old.sink new.sink

-- The same, or why the command ended before is printed: net and console are as they were.
abbrev pub ServesFrom :
    ServePlain → Result (Setup × ℕ) Stop → ℕ → (old new : WithLinks) → Type 0
ServesFrom query (Ok made) status old new = ServesOver query status old new made
ServesFrom query (Err stop) status old new =
    PrintsStop stop status old.sink new.sink × IsApart old new

-- The match was served over that, and recorded in the file of this name.
abbrev pub RecordsOver :
    ServePlain → (name : List ℕ) → ℕ → (old new : WithLinks) → Setup × ℕ → Type 0
RecordsOver query name status old new made =
    RecordsBy (served_match query made.0) (invite_of query made.1) name status old.net new.net
    old.console new.console old.disk new.disk old.sink new.sink

-- The same, or why the command ended before is printed: net, console and files are as they were.
abbrev pub RecordsFrom :
    ServePlain → (name : List ℕ) → Result (Setup × ℕ) Stop → ℕ → (old new : WithLinks) → Type 0
RecordsFrom query name (Ok made) status old new = RecordsOver query name status old new made
RecordsFrom query name (Err stop) status old new =
    PrintsStop stop status old.sink new.sink
    × IsApart old new
    × (new.disk.files ≡ old.disk.files)

-- The match was served, and recorded, if a file of this name is given for that; or the command ended
-- before it.
abbrev pub ServesAs :
    Option (List ℕ) → ServePlain → Result (Setup × ℕ) Stop → ℕ → (old new : WithLinks) → Type 0
ServesAs None query made status old new =
    ServesFrom query made status old new × (new.disk ≡ old.disk)
ServesAs (Some name) query made status old new = RecordsFrom query name made status old new

-- The text of `replay` where no mark differs: that many frames, and this world in the end.
abbrev pub without_marks : (frames : ℕ) → GameState → List ℕ
without_marks frames world =
    replay_head frames ++ world_text game_hash game_summary world ++ end_line

-- Of the record of the match with these columns `replay` finds no differing mark, over the same
-- rules and map, and prints the frames, the world and the hash that the server printed.
abbrev pub ReplaysServed :
    ServePlain → Setup × ℕ → List Column → (frames : ℕ) → GameState → Type 0
ReplaysServed query made columns frames world =
    ReplaysAs made.1 made.0
    (served_record (served_match query made.0) (invite_of query made.1) columns)
    (λ file. Ok (done (without_marks frames world)))

-- A match was served to its end over some rules and a map, and recorded: no file changed, or the
-- record is replayed so.
abbrev pub HasRecorded :
    ServePlain → (name : List ℕ) → ℕ → (old new : WithLinks) → Type 0
HasRecorded query name status old new =
    (made : Setup × ℕ)
    × ((out : RecordsOut (served_match query made.0) (invite_of query made.1) name status old.net
    new.net old.console new.console old.disk new.disk old.sink new.sink)
    × ((new.disk.files ≡ old.disk.files)
    ⊎ ReplaysServed query made (columns_of out.pass) out.steps out.world))

-- A run of `serve` that records its match in the file of this name. `read` is the disk once the
-- rules and the map were read, and before that file is written.
pub record RunsRecorded (query : ServePlain) (name : List ℕ) (status : ℕ) (old new : WithLinks)
    : Type 0 where
  pub read : DiskState
  pub runs :
      RunsLinked (rules_and_map query.rules query.map_file) (serve_step query)
      (RecordsOver query name status (record old { disk = read }) new) IsServeDone status
      (recording_causes name (NetFailed old.net new.net) old new) old (record new { disk = read })
  -- No other file changed, and that one only where a match was served to its end.
  pub files : OnlyChanges (Some name) old.disk.files new.disk.files
  pub ended :
      (new.disk.files ≡ old.disk.files)
      ⊎ HasRecorded query name status (record old { disk = read }) new
  pub later : IsLater (environment_of old) (environment_of new)

-- A run of `serve`, by the file that its match is recorded in, if one is named.
abbrev pub RunsServing : Option (List ℕ) → ServePlain → ℕ → (old new : WithLinks) → Type 0
RunsServing None query status old new =
    RunsLinked (rules_and_map query.rules query.map_file) (serve_step query)
    (ServesOver query status old new) IsServeDone status
    (causes_by (NetFailed old.net new.net) old new) old new
RunsServing (Some name) query status old new = RunsRecorded query name status old new

-- A run of `serve`.
abbrev pub RunsServe : ServePlain → ℕ → (old new : WithLinks) → Type 0
RunsServe query status old new = RunsServing query.record_file query status old new
