-- The answer to the command `compare`.
use Rattle.std.specs.Prelude.{ℕ, if◌then◌else◌, List, [], Ok, Err, codes, unwrap_or}
use Rattle.base.specs.Steps.{◌>>=◌}
use Rattle.command_words.specs.RequestPlain.{MatchPlain}
use Rattle.command_answers.specs.Contents.{Contents}
use Rattle.command_answers.specs.Reply.{Reply, refusal}
use Rattle.command_answers.specs.Step.{Step}
use Rattle.command_answers.specs.WantedFiles.{is_too_long}
use Rattle.compare_command.specs.Comparing.{compare_step}
use Rattle.rule_commands.specs.Numbers.{numbered_setup_step}

-- The bytes of the first file, which has this name, if they are not too many for what they begin.
abbrev pub first_step : (name first : List ℕ) → Step (List ℕ)
first_step name first =
    if is_too_long first then Err (refusal name 0 (codes "TooLong")) else Ok first

-- The reply to `compare` over the first file's bytes, or the first fault: those of the rules and the
-- map come before those of the two files.
abbrev pub compared_over :
    MatchPlain → (second : List ℕ) → Contents → (first : List ℕ) → Step Reply
compared_over query second contents first = do
  made ← numbered_setup_step query.rules query.map_file contents
  compare_step query.file second made.1 made.0 first (unwrap_or contents.replay [])

-- The reply to `compare`, or the first fault: that the first file is too long, where the second was
-- not read, comes before all others.
abbrev pub compared_step : MatchPlain → (second : List ℕ) → Contents → Step Reply
compared_step query second contents = do
  first ← first_step query.file (unwrap_or contents.first [])
  compared_over query second contents first
