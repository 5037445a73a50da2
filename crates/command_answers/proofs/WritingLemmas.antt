-- From the file that was written after a text to the outcome of the reply.
use Rattle.std.proofs.Common.{◌≡◌, ◌≤◌, ℕ, List, Option, None, Some, IsSome, refl, subst, inl, inr, arith}
use Rattle.base.specs.Cause.{Increased}
use Rattle.base.specs.Written.{Wrote}
use Rattle.base.proofs.WrittenLemmas.{whole_prefix}
use Rattle.game_io.specs.Files.{Files}
use Rattle.game_io.specs.DiskState.{DiskState}
use Rattle.game_io.specs.SinkState.{SinkState}
use Rattle.command_answers.specs.FileWrite.{FileWrite, name_of, files_after, IsLeftPartly}
use Rattle.command_answers.specs.Reply.{Reply}
use Rattle.command_answers.specs.Causes.{causes_of}
use Rattle.command_answers.specs.Environment.{environment}
use Rattle.command_answers.specs.Outcome.{IsAnswered}
use Rattle.command_answers.specs.Writing.{WritesLast, AnswersReply}

-- Only a file that is to be written is left partly.
named : (write : Option FileWrite) (old new : Option Files) → IsLeftPartly write old new → IsSome (name_of write)
named None old new left = absurd left
named (Some write) old new left = refl

-- The text was written, and then the file.
pub writes_outcome :
    (reply : Reply) (status : ℕ) (d d' : DiskState) (s s' : SinkState) →
    Wrote s.written s'.written reply.text → WritesLast reply.write reply.status status d d' →
    AnswersReply reply status d d' s s'
writes_outcome reply status d d' s s' wrote (inl done) = inl (inl (done.0, wrote, done.1))
writes_outcome reply status d d' s s' wrote (inr (inl cut)) =
    inl (inr (inr (cut.0, (named reply.write d.files d'.files cut.2, cut.1), wrote, cut.2)))
writes_outcome reply status d d' s s' wrote (inr (inr memory)) =
    inr (memory.0, whole_prefix s.written s'.written reply.text wrote, memory.1)

rose_earlier : (a b c : ℕ) → a ≤ b → Increased b c → Increased a c
rose_earlier a b c later rose = omega arith

-- The same outcome of a command that read files before, by which no file changed.
pub answered_since :
    (reply : Reply) (status : ℕ) (written : Option (List ℕ)) (d d1 d' : DiskState) (s s' : SinkState) →
    d1.files ≡ d.files → d.faults ≤ d1.faults →
    IsAnswered reply status (causes_of written (environment d1 s) (environment d' s')) (environment d1 s) (environment d' s') →
    IsAnswered reply status (causes_of written (environment d s) (environment d' s')) (environment d s) (environment d' s')
answered_since reply status written d d1 d' s s' same later (inl (inl complete)) =
    inl (inl (complete.0, complete.1, subst (λ files. d'.files ≡ files_after reply.write files) same complete.2))
answered_since reply status written d d1 d' s s' same later (inl (inr (inl cut))) =
    inl (inr (inl (cut.0, cut.1, cut.2, subst (λ files. d'.files ≡ files) same cut.3)))
answered_since reply status written d d1 d' s s' same later (inl (inr (inr cut))) =
    inl (inr (inr (
      cut.0,
      (cut.1.0, rose_earlier d.faults d1.faults d'.faults later cut.1.1),
      cut.2,
      subst (λ files. IsLeftPartly reply.write files d'.files) same cut.3,
    )))
answered_since reply status written d d1 d' s s' same later (inr memory) =
    inr (memory.0, memory.1, subst (λ files. d'.files ≡ files) same memory.2)
