-- The file of an answer, after its text.
use Rattle.std.specs.Prelude.{◌≡◌, ℕ, ◌⊎◌, Option, Result, Ok, Err}
use Rattle.base.specs.Cause.{Increased}
use Rattle.game_io.specs.DiskState.{DiskState}
use Rattle.game_io.specs.SinkState.{SinkState}
use Rattle.command_answers.specs.declared.statuses.TheConstants.{FAULT_WRITE, OUT_OF_MEMORY}
use Rattle.command_answers.specs.declared.answer.Answer.{Answer}
use Rattle.command_answers.specs.declared.stop.Stop.{Stop}
use Rattle.command_answers.specs.Answer.{reply_of}
use Rattle.command_answers.specs.Causes.{causes_of}
use Rattle.command_answers.specs.FileWrite.{FileWrite, name_of, files_after, IsLeftPartly}
use Rattle.command_answers.specs.Outcome.{IsAnswered}
use Rattle.command_answers.specs.Environment.{environment}
use Rattle.command_answers.specs.Reply.{Reply}
use Rattle.command_answers.specs.Stop.{PrintsStop}

-- The file was written, if there is one, and the status answered; or the disk failed in the write;
-- or memory ran out before it.
abbrev pub WritesLast :
    Option FileWrite → (status result : ℕ) → (old new : DiskState) → Type 0
WritesLast write status result old new =
    ((result ≡ status) × (new.files ≡ files_after write old.files))
    ⊎ (((result ≡ FAULT_WRITE)
    × Increased old.faults new.faults
    × IsLeftPartly write old.files new.files)
    ⊎ ((result ≡ OUT_OF_MEMORY) × (new.files ≡ old.files)))

-- The reply was answered, and no other file than its own was written.
abbrev pub AnswersReply :
    Reply → ℕ → (old new : DiskState) → (old_sink new_sink : SinkState) → Type 0
AnswersReply reply status d d' s s' =
    IsAnswered reply status
    (causes_of (name_of reply.write) (environment d s) (environment d' s'))
    (environment d s) (environment d' s')

-- What is printed, written and answered for an answer, or for a stop before it.
abbrev pub PrintsAnswer :
    Result Answer Stop → ℕ → (old new : DiskState) → (old_sink new_sink : SinkState) → Type 0
PrintsAnswer (Ok answer) status d d' s s' = AnswersReply (reply_of answer) status d d' s s'
PrintsAnswer (Err stop) status d d' s s' = PrintsStop stop status s s' × (d'.files ≡ d.files)
