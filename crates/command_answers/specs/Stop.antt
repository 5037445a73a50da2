-- Steps of a command in code, and the steps of its definition.
use Rattle.std.specs.Prelude.{◌≡◌, ℕ, List, Result, Ok, Err}
use Rattle.std.specs.Global.{Vec}
use Rattle.game_io.specs.SinkState.{SinkState}
use Rattle.command_answers.specs.declared.statuses.TheConstants.{OUT_OF_MEMORY}
use Rattle.command_answers.specs.declared.stop.Stop.{Stop}
use Rattle.command_answers.specs.declared.stop.Stop.TheVariants.{Refused, ReadFault, NoMemory}
use Rattle.command_answers.specs.Reply.{Reply, done, refusal, read_fault}
use Rattle.command_answers.specs.Printing.{PrintsReply, MayPrintReply}
use Rattle.command_answers.specs.Step.{Step}
use Rattle.command_answers.specs.WantedFiles.{Wanted}
use Rattle.command_answers.specs.Contents.{IsUnread}

-- The code stops with this reply.
abbrev pub IsRefusal : Stop → Reply → Type 0
IsRefusal (Refused name line cause) reply = reply ≡ refusal name.now line cause.now
IsRefusal ReadFault reply = ⊥
IsRefusal NoMemory reply = ⊥

-- The code stops at a step with the step's refusal, or because a read failed, which it may where
-- `may_fail` holds. Memory may run out in place of any answer.
abbrev pub IsReadStop : {T : Type 0} → Stop → Step T → (may_fail : Type 0) → Type 0
IsReadStop (Refused name line cause) step may_fail = step ≡ Err (refusal name.now line cause.now)
IsReadStop ReadFault step may_fail = may_fail
IsReadStop NoMemory step may_fail = Unit {0}

-- The code returns the step's value, or its stop.
abbrev pub ReturnsOrStops :
    {S T : Type 0} → Result S Stop → (view : S → T) → Step T → (may_fail : Type 0) → Type 0
ReturnsOrStops (Ok value) view step may_fail = step ≡ Ok (view value)
ReturnsOrStops (Err stop) view step may_fail = IsReadStop stop step may_fail

-- The same for a step that reads nothing.
abbrev pub IsStepStop : {T : Type 0} → Stop → Step T → Type 0
IsStepStop stop step = IsReadStop stop step ⊥

abbrev pub ReturnsStep : {S T : Type 0} → Result S Stop → (view : S → T) → Step T → Type 0
ReturnsStep result view step = ReturnsOrStops result view step ⊥

-- Over an opaque disk its count of faults rose, and a file is missing, too long, or
-- could not be read.
abbrev pub IsOpaqueStop : Stop → List Wanted → (rose : Type 0) → Type 0
IsOpaqueStop (Refused name line cause) files rose =
    rose × IsUnread files (refusal name.now line cause.now)
IsOpaqueStop ReadFault files rose = rose
IsOpaqueStop NoMemory files rose = Unit {0}

-- The same, or a value of which `Holds` is true.
abbrev pub ReturnsOpaque :
    {S : Type 0} → Result S Stop → (Holds : S → Type 0) → List Wanted → (rose : Type 0) → Type 0
ReturnsOpaque (Ok value) Holds files rose = Holds value
ReturnsOpaque (Err stop) Holds files rose = IsOpaqueStop stop files rose

-- What is printed and answered for a stop.
abbrev pub PrintsStop : Stop → ℕ → (old new : SinkState) → Type 0
PrintsStop (Refused name line cause) status old new =
    MayPrintReply (refusal name.now line cause.now) status old new
PrintsStop ReadFault status old new = PrintsReply read_fault status old new
PrintsStop NoMemory status old new = (status ≡ OUT_OF_MEMORY) × (new.written ≡ old.written)

-- The same for a command's text, where it has one.
abbrev pub PrintsText : Result (Vec ℕ) Stop → ℕ → (old new : SinkState) → Type 0
PrintsText (Ok text) status old new = PrintsReply (done text.items) status old new
PrintsText (Err stop) status old new = PrintsStop stop status old new
