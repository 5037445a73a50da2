-- Which of the two top calls runs a command. Each refuses the other's commands like unknown ones.
use Rattle.std.specs.Prelude.{◌||◌, Bool, false, List, ℕ, Option, None, Some, option_and_then, codes}
use Rattle.std.specs.Str.{bytes_eq}
use Rattle.command_words.specs.RequestPlain.{RequestPlain, Local, Serve, Play, PlayBot}

-- The request, where its command always returns.
abbrev pub returning : RequestPlain → Option RequestPlain
returning (Local query bots) = None
returning (Serve query) = None
returning (Play query at is_quiet) = None
returning (PlayBot query) = None
returning request = Some request

-- The request, where its command may wait for threads or links.
abbrev pub waiting : RequestPlain → Option RequestPlain
waiting (Local query bots) = Some (Local query bots)
waiting (Serve query) = Some (Serve query)
waiting (Play query at is_quiet) = Some (Play query at is_quiet)
waiting (PlayBot query) = Some (PlayBot query)
waiting request = None

-- The request that `run` runs, if the words name one, and the request that `run_waiting` runs.
abbrev pub returning_request : Option RequestPlain → Option RequestPlain
returning_request = option_and_then returning

abbrev pub waiting_request : Option RequestPlain → Option RequestPlain
waiting_request = option_and_then waiting

-- The word after the program's name, if there is one, is a command that may wait.
abbrev pub names_waiting : Option (List ℕ) → Bool
names_waiting None = false
names_waiting (Some command) =
    bytes_eq command (codes "local")
    || (bytes_eq command (codes "serve") || bytes_eq command (codes "play"))
