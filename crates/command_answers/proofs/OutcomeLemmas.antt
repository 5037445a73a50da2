-- From the text at the sink to the outcome of a reply that writes no file.
use Rattle.std.proofs.Common.{◌≡◌, ℕ, List, [], Option, None, refl, sym, ap, ◌∙◌, inl, inr}
use Rattle.base.specs.Written.{WrotePrefix}
use Rattle.base.proofs.WrittenLemmas.{Wrote-nil}
use Rattle.game_io.specs.DiskState.{DiskState}
use Rattle.game_io.specs.SinkState.{SinkState}
use Rattle.command_answers.specs.declared.statuses.TheConstants.{OUT_OF_MEMORY}
use Rattle.command_answers.specs.FileWrite.{files_after}
use Rattle.command_answers.specs.Reply.{Reply}
use Rattle.command_answers.specs.Causes.{causes_of}
use Rattle.command_answers.specs.Environment.{environment}
use Rattle.command_answers.specs.Outcome.{IsPrinted, IsAnswered, IsOutOfMemory}
use Rattle.command_answers.specs.Printing.{PrintsReply, MayPrintReply}

pub printed_outcome :
    (reply : Reply) (status : ℕ) (written : Option (List ℕ)) (d d' : DiskState) (s s' : SinkState) →
    reply.write ≡ None → d'.files ≡ d.files → PrintsReply reply status s s' →
    IsPrinted reply status (causes_of written (environment d s) (environment d' s')) (environment d s) (environment d' s')
printed_outcome reply status written d d' s s' none same (inl wrote) =
    inl (wrote.0, wrote.1, same ∙ ap (λ write. files_after write d.files) (sym none))
printed_outcome reply status written d d' s s' none same (inr cut) = inr (inl (cut.0, cut.1, cut.2, same))

pub answered_outcome :
    (reply : Reply) (status : ℕ) (written : Option (List ℕ)) (d d' : DiskState) (s s' : SinkState) →
    reply.write ≡ None → d'.files ≡ d.files → MayPrintReply reply status s s' →
    IsAnswered reply status (causes_of written (environment d s) (environment d' s')) (environment d s) (environment d' s')
answered_outcome reply status written d d' s s' none same (inl prints) =
    inl (printed_outcome reply status written d d' s s' none same prints)
answered_outcome reply status written d d' s s' none same (inr memory) = inr (memory.0, memory.1, same)

-- Nothing written is a prefix of any text.
nothing_written : (old new : Option (List ℕ)) (text : List ℕ) → new ≡ old → WrotePrefix old new text
nothing_written old new text same =
    record { prefix = []; rest = text; whole = refl; wrote = same ∙ Wrote-nil old }

-- Memory ran out before anything was printed.
pub memory_outcome :
    (reply : Reply) (status : ℕ) (d d' : DiskState) (s s' : SinkState) →
    status ≡ OUT_OF_MEMORY → d'.files ≡ d.files → s'.written ≡ s.written →
    IsOutOfMemory reply status (environment d s) (environment d' s')
memory_outcome reply status d d' s s' e same unwritten =
    (e, nothing_written s.written s'.written reply.text unwritten, same)
