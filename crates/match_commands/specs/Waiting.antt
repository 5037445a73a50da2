-- A run of a command that may wait for threads or links.
use Rattle.std.specs.Prelude.{◌≡◌, ℕ, Option, Some, option_and_then}
use Rattle.command_words.specs.RequestPlain.{RequestPlain, Serve, Play, PlayBot}
use Rattle.command_answers.specs.Causes.{causes_of}
use Rattle.link_commands.specs.Links.{WithLinks, IsApart, environment_of}
use Rattle.match_commands.specs.Plays.{RunsBot, RunsPlay}
use Rattle.match_commands.specs.Serves.{RunsServe}
use Rattle.match_commands.specs.Request.{written_by}
use Rattle.match_commands.specs.Run.{ProgramRun}

-- A run that uses neither net nor console: the words and the files decide.
abbrev pub RunsAlone : Option RequestPlain → ℕ → (old new : WithLinks) → Type 0
RunsAlone request status old new =
    ProgramRun request status
    (causes_of (option_and_then written_by request) (environment_of old) (environment_of new))
    (environment_of old) (environment_of new)
    × IsApart old new

-- A run of the request that the words name, if they name one.
abbrev pub RunsWaiting : Option RequestPlain → ℕ → (old new : WithLinks) → Type 0
RunsWaiting (Some (Serve query)) status old new = RunsServe query status old new
RunsWaiting (Some (Play query at is_quiet)) status old new = RunsPlay query status old new
RunsWaiting (Some (PlayBot query)) status old new = RunsBot query status old new
RunsWaiting request status old new = RunsAlone request status old new
