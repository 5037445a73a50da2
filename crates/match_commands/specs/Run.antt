-- A run of the program: what it answers, prints and leaves, by its causes.
use Rattle.std.specs.Prelude.{◌≡◌, ◌≢◌, ℕ, ◌⊎◌, Option, None, IfSome, IfNone, option_and_then}
use Rattle.command_words.specs.RequestPlain.{RequestPlain, Make, Replay, Migrate, Continue}
use Rattle.command_words.specs.RequestPlain.{Compare}
use Rattle.game_io.specs.Files.{Files}
use Rattle.command_answers.specs.declared.statuses.TheConstants.{DONE, REFUSED_WORDS, REFUSED_FILE}
use Rattle.command_answers.specs.declared.statuses.TheConstants.{FAULT_READ, FAULT_WRITE}
use Rattle.command_answers.specs.declared.statuses.TheConstants.{OUT_OF_MEMORY}
use Rattle.command_answers.specs.declared.statuses.TheConstants.{MARK_DIFFERS}
use Rattle.command_answers.specs.Reply.{Reply, words_reply, read_fault}
use Rattle.command_answers.specs.FileWrite.{OnlyChanges}
use Rattle.command_answers.specs.Causes.{Causes, IsQuiet}
use Rattle.command_answers.specs.Environment.{Environment, IsUnchanged, IsLater}
use Rattle.command_answers.specs.Outcome.{IsPrinted, IsAnswered}
use Rattle.command_answers.specs.WantedFiles.{in_order}
use Rattle.command_answers.specs.Contents.{Contents, IsFirstThere, AreContents, IsUnread}
use Rattle.match_commands.specs.Request.{wanted, written_by, given_reply, reply_to, IsFaultless}

-- `refused words` is printed, or memory ran out before anything was.
abbrev pub RefusesWords : ℕ → Causes → (old new : Environment) → Type 0
RefusesWords status causes old new =
    IsPrinted words_reply status causes old new
    ⊎ ((status ≡ OUT_OF_MEMORY) × IsUnchanged old new)

-- Over an observable disk the arguments and the files decide. Else a read failed, which it can
-- where the first file is there.
abbrev pub IsObservableAnswer : RequestPlain → Files → ℕ → Causes → (old new : Environment) → Type 0
IsObservableAnswer request files status causes old new =
    IsAnswered (reply_to request files) status causes old new
    ⊎ (IsFirstThere (in_order (wanted request)) files
    × causes.read
    × IsPrinted read_fault status causes old new)

-- Over an opaque disk the contents that it gave decide. Else its count of faults rose,
-- and a file is missing, too long, or could not be read; or memory ran out before anything was
-- printed.
abbrev pub IsOpaqueAnswer : RequestPlain → ℕ → Causes → (old new : Environment) → Type 0
IsOpaqueAnswer request status causes old new =
    ((contents : Contents)
    × (AreContents (wanted request) contents
    × IsAnswered (given_reply request contents) status causes old new))
    ⊎ ((causes.read
    × (((reply : Reply)
    × (IsUnread (in_order (wanted request)) reply × IsAnswered reply status causes old new))
    ⊎ IsPrinted read_fault status causes old new))
    ⊎ ((status ≡ OUT_OF_MEMORY) × IsUnchanged old new))

-- The status where nothing fails, the files are without a fault and nothing is refused. Which of
-- two a command answers, the reply tells: on a replay 7 exactly where a mark that it compares
-- differs, of `compare` exactly where there is a difference.
abbrev pub IsAnswerStatus : RequestPlain → ℕ → Type 0
IsAnswerStatus (Replay query) status = (status ≡ DONE) ⊎ (status ≡ MARK_DIFFERS)
IsAnswerStatus (Migrate query to) status = (status ≡ DONE) ⊎ (status ≡ MARK_DIFFERS)
IsAnswerStatus (Continue query save) status = (status ≡ DONE) ⊎ (status ≡ MARK_DIFFERS)
IsAnswerStatus (Compare query second) status = (status ≡ DONE) ⊎ (status ≡ MARK_DIFFERS)
IsAnswerStatus request status = status ≡ DONE

-- `make` is not refused for a fault: it reads no files, and those that are built in have none.
abbrev pub IsSound : RequestPlain → ℕ → Type 0
IsSound (Make number) status = status ≢ REFUSED_FILE
IsSound request status = Unit {0}

-- A run of a request.
pub record RunsRequest
    (request : RequestPlain) (status : ℕ) (causes : Causes) (old new : Environment) : Type 0 where
  pub observable :
      IfSome old.disk.files (λ files. IsObservableAnswer request files status causes old new)
  pub opaque : IfNone old.disk.files (IsOpaqueAnswer request status causes old new)
  pub accepted : status ≢ REFUSED_WORDS
  pub read : status ≡ FAULT_READ → causes.read ⊎ causes.net
  pub write : status ≡ FAULT_WRITE → causes.sink ⊎ causes.write
  pub files : OnlyChanges (written_by request) old.disk.files new.disk.files
  pub later : IsLater old new

-- A run of the program, for the request that its arguments name, if they name one.
pub record ProgramRun
    (request : Option RequestPlain) (status : ℕ) (causes : Causes) (old new : Environment)
    : Type 0 where
  -- Status 2: exactly where the arguments name no request.
  pub refused : IfNone request (RefusesWords status causes old new)
  pub only_refused : status ≡ REFUSED_WORDS → request ≡ None
  -- Every status, over an observable disk: as the arguments and the files say.
  pub observable :
      IfSome request (λ request.
      IfSome old.disk.files (λ files. IsObservableAnswer request files status causes old new))
  pub opaque :
      IfSome request (λ request.
      IfNone old.disk.files (IsOpaqueAnswer request status causes old new))
  -- Status 0, 7 of a command that has it, or 6: where the files are there and without a fault,
  -- nothing is refused, and nothing failed in the run.
  pub complete :
      IsQuiet causes →
      IfSome request (λ request.
      IfSome old.disk.files
      (λ files. IsFaultless request files → IsAnswerStatus request status ⊎ (status ≡ OUT_OF_MEMORY)))
  -- Status 3: never of `make`.
  pub sound : IfSome request (λ request. IsSound request status)
  -- Status 4 and 5: only where a count of faults rose.
  pub read : status ≡ FAULT_READ → causes.read ⊎ causes.net
  pub write : status ≡ FAULT_WRITE → causes.sink ⊎ causes.write
  -- No file changed but the one that the arguments name to be written.
  pub files : OnlyChanges (option_and_then written_by request) old.disk.files new.disk.files
  pub later : IsLater old new
