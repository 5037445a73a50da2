-- The answer to a request.
use Rattle.std.specs.Prelude.{ℕ, List, [], map, Option, None, Some, Ok, IsOk, unwrap_or}
use Rattle.base.specs.Steps.{◌>>=◌}
use Rattle.game_io.specs.Files.{Files}
use Rattle.command_words.specs.RequestPlain.{RequestPlain, Drill, Yaml, Check, Route, Make}
use Rattle.command_words.specs.RequestPlain.{Local, Serve, Play, Replay, Migrate, Save}
use Rattle.command_words.specs.RequestPlain.{Continue, View, Worlds, Compare, Datagrams, PlayBot}
use Rattle.command_answers.specs.Reply.{Reply, done}
use Rattle.command_answers.specs.Step.{Step, replied}
use Rattle.command_answers.specs.WantedFiles.{WantedFiles, no_files, rule_file}
use Rattle.command_answers.specs.WantedFiles.{rules_and_map, with_save, with_script}
use Rattle.command_answers.specs.WantedFiles.{with_replay, with_compared}
use Rattle.command_answers.specs.Contents.{Contents, contents_of}
use Rattle.rule_commands.specs.RuleFiles.{yaml_step}
use Rattle.rule_commands.specs.Checks.{check_step}
use Rattle.rule_commands.specs.Routes.{route_step}
use Rattle.datagrams_command.specs.Datagrams.{datagrams_step}
use Rattle.match_commands.specs.Compared.{compared_step}
use Rattle.match_commands.specs.Drills.{drill_step}
use Rattle.match_commands.specs.Locals.{local_match_step}
use Rattle.match_commands.specs.Made.{make_step}
use Rattle.match_commands.specs.Replayed.{replayed_step, migrated_step}
use Rattle.match_commands.specs.Saves.{saved_step, continued_step}
use Rattle.match_commands.specs.Views.{viewed_step}
use Rattle.match_commands.specs.Worlds.{told_worlds}

-- The files that a request wants to be read.
abbrev pub wanted : RequestPlain → WantedFiles
wanted (Drill query record_file) =
    with_script query.file (rules_and_map query.rules query.map_file)
wanted (Yaml names) = record no_files { rules = map rule_file names }
wanted (Check map_file names) = rules_and_map names map_file
wanted (Route query) = rules_and_map query.rules (Some query.map_file)
wanted (Make number) = no_files
wanted (Local query bots) = with_script query.file (rules_and_map query.rules query.map_file)
wanted (Serve query) = rules_and_map query.rules query.map_file
wanted (Play query at is_quiet) = with_script query.file (rules_and_map query.rules query.map_file)
wanted (PlayBot query) = rules_and_map query.rules query.map_file
wanted (Replay query) = with_replay query.file (rules_and_map query.rules query.map_file)
wanted (Migrate query to) = with_replay query.file (rules_and_map query.rules query.map_file)
wanted (Save query frames to) =
    with_replay query.file (rules_and_map query.rules query.map_file)
wanted (Continue query save) =
    with_replay query.file (with_save save (rules_and_map query.rules query.map_file))
wanted (View query client) = with_replay query.file (rules_and_map query.rules query.map_file)
wanted (Worlds query range) = with_replay query.file (rules_and_map query.rules query.map_file)
wanted (Compare query second) =
    with_compared query.file second (rules_and_map query.rules query.map_file)
wanted (Datagrams script) = with_script script no_files

-- The file that a request names to be written, if it names one.
abbrev pub written_by : RequestPlain → Option (List ℕ)
written_by (Drill query record_file) = record_file
written_by (Yaml names) = None
written_by (Check map_file names) = None
written_by (Route query) = None
written_by (Make number) = None
written_by (Local query bots) = None
written_by (Serve query) = query.record_file
written_by (Play query at is_quiet) = None
written_by (PlayBot query) = None
written_by (Replay query) = None
written_by (Migrate query to) = Some to
written_by (Save query frames to) = Some to
written_by (Continue query save) = None
written_by (View query client) = None
written_by (Worlds query range) = None
written_by (Compare query second) = None
written_by (Datagrams script) = None

-- The reply of a command that prints a text alone, or its refusal.
abbrev pub text_reply : Step (List ℕ) → Step Reply
text_reply step = step >>= λ text. Ok (done text)

-- The reply of a command whose files have these contents, or its refusal. A map, a first
-- file, a script and a replay are there wherever one is wanted. The replies of `serve` and `play` are none of files
-- alone (`specs/Waiting.antt`): nothing here is said of them.
abbrev pub answer_of : RequestPlain → Contents → Step Reply
answer_of (Drill query record_file) contents = drill_step query record_file contents
answer_of (Yaml names) contents = text_reply (yaml_step names contents.rules)
answer_of (Check map_file names) contents = text_reply (check_step names map_file contents)
answer_of (Route query) contents = text_reply (route_step query contents)
answer_of (Make number) contents = text_reply (make_step number)
answer_of (Local query bots) contents = text_reply (local_match_step query bots contents)
answer_of (Serve query) contents = text_reply (Ok [])
answer_of (Play query at is_quiet) contents = text_reply (Ok [])
answer_of (PlayBot query) contents = text_reply (Ok [])
answer_of (Replay query) contents = replayed_step query contents
answer_of (Migrate query to) contents = migrated_step query to contents
answer_of (Save query frames to) contents = saved_step query frames to contents
answer_of (Continue query save) contents = continued_step query save contents
answer_of (View query client) contents = viewed_step query client contents
answer_of (Worlds query range) contents = text_reply (told_worlds query range contents)
answer_of (Compare query second) contents = compared_step query second contents
answer_of (Datagrams script) contents = datagrams_step script (unwrap_or contents.script [])

-- The answer to a request whose files have these contents.
abbrev pub given_reply : RequestPlain → Contents → Reply
given_reply request contents = replied (answer_of request contents)

-- The reply of a command over some files, or its refusal: the first file that cannot be read
-- decides, else what is in them.
abbrev pub answer_over : RequestPlain → Files → Step Reply
answer_over request files = contents_of (wanted request) files >>= answer_of request

abbrev pub reply_to : RequestPlain → Files → Reply
reply_to request files = replied (answer_over request files)

-- Each file that the request wants is there and no longer than it may be, none has a fault, and
-- what is asked for is not refused.
abbrev pub IsFaultless : RequestPlain → Files → Type 0
IsFaultless request files = IsOk (answer_over request files)
