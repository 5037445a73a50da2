-- What the program answers where nothing fails.
use Rattle.std.specs.Prelude.{ℕ, List, ◌++◌, Option, None, codes}
use Rattle.std.specs.Fmt.{decimal}
use Rattle.command_answers.specs.declared.statuses.TheConstants.{DONE, REFUSED_WORDS, REFUSED_FILE}
use Rattle.command_answers.specs.declared.statuses.TheConstants.{FAULT_READ}
use Rattle.command_answers.specs.FileWrite.{FileWrite}

-- A status, a text, and a file that is written after the text, if the command writes one.
pub record Reply : Type 0 where
  pub status : ℕ
  pub text : List ℕ
  pub write : Option FileWrite

-- A status and a text alone.
abbrev pub printed : ℕ → List ℕ → Reply
printed status text = record { status = status; text = text; write = None }

-- The command is done, and this is its text.
abbrev pub done : List ℕ → Reply
done text = printed DONE text

-- The words are refused.
abbrev pub words_reply : Reply
words_reply = printed REFUSED_WORDS (codes "refused words\n")

-- A file is refused: its name as given, a place in it, and the cause.
unfoldable pub refusal_text : List ℕ → ℕ → List ℕ → List ℕ
refusal_text name place cause =
    codes "refused " ++ name ++ codes " " ++ decimal place ++ codes " " ++ cause ++ codes "\n"

abbrev pub refusal : List ℕ → ℕ → List ℕ → Reply
refusal name place cause = printed REFUSED_FILE (refusal_text name place cause)

-- The answer where a read failed.
abbrev pub read_fault : Reply
read_fault = printed FAULT_READ (codes "fault read\n")
