-- A run of a command over links: its files decide first, and then what comes over the links.
use Rattle.std.specs.Prelude.{◌≡◌, ◌≢◌, ℕ, ◌⊎◌, None, Result, Ok, Err, IsOk, IfSome, IfNone}
use Rattle.base.specs.Cause.{Increased}
use Rattle.base.specs.Steps.{◌>>=◌}
use Rattle.game_io.specs.DiskState.{DiskState}
use Rattle.game_io.specs.Files.{Files}
use Rattle.game_io.specs.NetState.{NetState}
use Rattle.game_io.specs.SinkState.{SinkState}
use Rattle.game_io.specs.SourceState.{SourceState}
use Rattle.command_answers.specs.declared.statuses.TheConstants.{REFUSED_WORDS, FAULT_READ}
use Rattle.command_answers.specs.declared.statuses.TheConstants.{FAULT_WRITE, OUT_OF_MEMORY}
use Rattle.command_answers.specs.declared.answer.Answer.{Answer}
use Rattle.command_answers.specs.Answer.{reply_of}
use Rattle.command_answers.specs.Reply.{Reply, read_fault}
use Rattle.command_answers.specs.Causes.{Causes, IsQuiet, causes_of}
use Rattle.command_answers.specs.Environment.{Environment, IsLater, environment}
use Rattle.command_answers.specs.Printing.{PrintsReply, MayPrintReply}
use Rattle.command_answers.specs.Step.{Step}
use Rattle.command_answers.specs.WantedFiles.{WantedFiles, in_order}
use Rattle.command_answers.specs.Contents.{Contents, contents_of, IsFirstThere, AreContents}
use Rattle.command_answers.specs.Contents.{IsUnread}

-- What is outside a command over links, before or after a call.
pub record WithLinks : Type 0 where
  pub disk : DiskState
  pub sink : SinkState
  pub net : NetState
  pub console : SourceState

abbrev pub with_links : DiskState → SinkState → NetState → SourceState → WithLinks
with_links disk sink net console =
    record { disk = disk; sink = sink; net = net; console = console }

abbrev pub environment_of : WithLinks → Environment
environment_of all = environment all.disk all.sink

-- Net and console are as they were.
abbrev pub IsApart : (old new : WithLinks) → Type 0
IsApart old new = (new.net ≡ old.net) × (new.console ≡ old.console)

-- The causes of a command that writes no file, and that ends by a fault of its net or of a link
-- where this is so.
abbrev pub causes_by : (net_failed : Type 0) → (old new : WithLinks) → Causes
causes_by net_failed old new =
    record (causes_of None (environment_of old) (environment_of new)) { net = net_failed }

-- Memory ran out before anything was printed, and before there was a link.
abbrev pub EndsBefore : ℕ → (old new : WithLinks) → Type 0
EndsBefore status old new =
    (status ≡ OUT_OF_MEMORY) × (new.sink.written ≡ old.sink.written) × IsApart old new

-- The command begins over what its files hold, or their first fault is printed. `Goes` is what is so
-- once it has begun.
abbrev pub Begins : {T : Type 0} → Step T → (T → Type 0) → ℕ → (old new : WithLinks) → Type 0
Begins (Ok value) Goes status old new = Goes value
Begins (Err reply) Goes status old new =
    MayPrintReply reply status old.sink new.sink × IsApart old new

-- Over an observable disk its files decide, by what the command makes of their contents. Else a
-- read failed, which it can where the first file is there.
abbrev pub IsObservableStart :
    {T : Type 0} → WantedFiles → (Contents → Step T) → (T → Type 0) → Files → ℕ →
    (old new : WithLinks) → Type 0
IsObservableStart wants start Goes files status old new =
    Begins (contents_of wants files >>= start) Goes status old new
    ⊎ (EndsBefore status old new
    ⊎ (IsFirstThere (in_order wants) files
    × Increased old.disk.faults new.disk.faults
    × PrintsReply read_fault status old.sink new.sink
    × IsApart old new))

-- Over an opaque disk the contents that it gave decide. Else its count of faults rose,
-- and a file is missing, too long, or could not be read.
abbrev pub IsOpaqueStart :
    {T : Type 0} → WantedFiles → (Contents → Step T) → (T → Type 0) → ℕ →
    (old new : WithLinks) → Type 0
IsOpaqueStart wants start Goes status old new =
    ((contents : Contents)
    × (AreContents wants contents × Begins (start contents) Goes status old new))
    ⊎ (EndsBefore status old new
    ⊎ (Increased old.disk.faults new.disk.faults
    × IsApart old new
    × (((reply : Reply)
    × (IsUnread (in_order wants) reply × MayPrintReply reply status old.sink new.sink))
    ⊎ PrintsReply read_fault status old.sink new.sink)))

-- A run of a command that wants these files. `Done` is a status that is answered where nothing fails
-- and the files are without a fault.
pub record RunsLinked {T : Type 0}
    (wants : WantedFiles) (start : Contents → Step T) (Goes : T → Type 0) (Done : ℕ → Type 0)
    (status : ℕ) (causes : Causes) (old new : WithLinks) : Type 0 where
  -- Every status, as the words, the files and the links say.
  pub observable :
      IfSome old.disk.files (λ files. IsObservableStart wants start Goes files status old new)
  pub opaque : IfNone old.disk.files (IsOpaqueStart wants start Goes status old new)
  -- Never status 2.
  pub accepted : status ≢ REFUSED_WORDS
  -- Status 4 and 5: only where a count of faults rose.
  pub read : status ≡ FAULT_READ → causes.read ⊎ causes.net
  pub write : status ≡ FAULT_WRITE → causes.sink ⊎ causes.write
  -- Where the files are there and without a fault, and nothing failed: done, or out of memory.
  pub complete :
      IsQuiet causes →
      IfSome old.disk.files
      (λ files. IsOk (contents_of wants files >>= start) → Done status ⊎ (status ≡ OUT_OF_MEMORY))
  -- No file changed.
  pub files : new.disk.files ≡ old.disk.files
  pub later : IsLater (environment_of old) (environment_of new)

-- What is printed and answered for an answer in code that writes no file, or where memory ran out
-- before it was made.
abbrev pub MadePrints : {E : Type 0} → Result Answer E → ℕ → (before after : SinkState) → Type 0
MadePrints (Ok answer) status before after = PrintsReply (reply_of answer) status before after
MadePrints (Err memory) status before after =
    (status ≡ OUT_OF_MEMORY) × (after.written ≡ before.written)
