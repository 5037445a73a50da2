-- What later commands answer of the file that a command wrote: its match is kept in it. Rules and
-- map are the same.
use Rattle.std.specs.Prelude.{◌≡◌, ℕ, [], Option, Some, Ok, IfSome, unwrap_or}
use Rattle.command_words.specs.RequestPlain.{MatchPlain, RequestPlain, Drill, Migrate, Save}
use Rattle.drill_words.specs.Drill.{DrillPlain}
use Rattle.game_io.specs.Files.{Files}
use Rattle.game_model.specs.Setup.{Setup}
use Rattle.command_answers.specs.declared.statuses.TheConstants.{DONE}
use Rattle.command_answers.specs.Contents.{Contents, contents_of}
use Rattle.command_answers.specs.FileWrite.{FileWrite}
use Rattle.rule_commands.specs.Numbers.{numbered_setup_step}
use Rattle.replay_commands.specs.Records.{ReplaysDrill}
use Rattle.replay_commands.specs.Replays.{ReplaysAgain}
use Rattle.save_commands.specs.Continuing.{Continues}
use Rattle.match_commands.specs.Drills.{numbered_step}
use Rattle.match_commands.specs.Request.{wanted, given_reply}

-- Of a recorded drill `replay` finds no differing mark, and it has the server's world in the end.
abbrev pub KeepsDrill : MatchPlain → Contents → Option FileWrite → Type 0
KeepsDrill query contents write =
    (made : Setup × DrillPlain × ℕ) → numbered_step query contents ≡ Ok made →
    IfSome write (λ file. ReplaysDrill made.2 made.0 made.1 file.bytes)

-- Of a migrated replay `replay` answers what it answers of the old one.
abbrev pub KeepsReplay : MatchPlain → Contents → Option FileWrite → Type 0
KeepsReplay query contents write =
    (made : Setup × ℕ) → numbered_setup_step query.rules query.map_file contents ≡ Ok made →
    ReplaysAgain made.1 made.0 (unwrap_or contents.replay []) write

-- Of a save `continue` answers, with the same replay, what `replay` answers, but for marks before
-- the save.
abbrev pub KeepsWorld : MatchPlain → (frames : ℕ) → Contents → Option FileWrite → Type 0
KeepsWorld query frames contents write =
    (made : Setup × ℕ) → numbered_setup_step query.rules query.map_file contents ≡ Ok made →
    Continues made.1 made.0 frames (unwrap_or contents.replay []) write

-- So it is of the file in the reply to a request, over an observable disk.
abbrev pub IsOfWritten :
    (Contents → Option FileWrite → Type 0) → RequestPlain → Option Files → Type 0
IsOfWritten Keeps request observable =
    IfSome observable
    (λ files. (contents : Contents) → contents_of (wanted request) files ≡ Ok contents →
    Keeps contents (given_reply request contents).write)

abbrev pub KeepsMatch : RequestPlain → Option Files → Type 0
KeepsMatch (Drill query (Some name)) observable =
    IsOfWritten (KeepsDrill query) (Drill query (Some name)) observable
KeepsMatch (Migrate query to) observable = IsOfWritten (KeepsReplay query) (Migrate query to) observable
KeepsMatch (Save query frames to) observable =
    IsOfWritten (KeepsWorld query frames) (Save query frames to) observable
KeepsMatch request observable = Unit {0}

-- So it is where the command of a request, if there is one, is done with this status.
abbrev pub KeepsIfDone : Option RequestPlain → (status : ℕ) → Option Files → Type 0
KeepsIfDone request status observable =
    status ≡ DONE → IfSome request (λ request. KeepsMatch request observable)
