-- Which status has which cause, and which files change.
use Rattle.std.proofs.Common.{◌≡◌, ◌≢◌, ◌⊎◌, ℕ, List, Option, None, Some, sym, ◌∙◌, inl, inr, arith}
use Rattle.game_io.specs.Files.{Files}
use Rattle.command_answers.specs.declared.statuses.TheConstants.{DONE, REFUSED_WORDS, REFUSED_FILE, FAULT_READ, FAULT_WRITE, OUT_OF_MEMORY, MARK_DIFFERS}
use Rattle.command_answers.specs.FileWrite.{FileWrite, name_of, files_after, IsLeftPartly, OnlyChanges}
use Rattle.command_answers.specs.Reply.{Reply}
use Rattle.command_answers.specs.Causes.{Causes}
use Rattle.command_answers.specs.Environment.{Environment}
use Rattle.command_answers.specs.Outcome.{IsAnswered}

-- The status of a request. `read_failed` and `write_failed` say that a count of faults rose.
pub record HasCauses (status : ℕ) (read_failed write_failed : Type 0) : Type 0 where
  pub accepted : status ≢ REFUSED_WORDS
  pub read : status ≡ FAULT_READ → read_failed
  pub write : status ≡ FAULT_WRITE → write_failed

-- A status that is answered where nothing fails, for accepted words.
pub record IsSettled (status : ℕ) : Type 0 where
  pub accepted : status ≢ REFUSED_WORDS
  pub read : status ≢ FAULT_READ
  pub write : status ≢ FAULT_WRITE

pub done_settled : IsSettled DONE
done_settled = record { accepted = λ f. grind (arith, f); read = λ f. grind (arith, f); write = λ f. grind (arith, f) }

pub file_settled : IsSettled REFUSED_FILE
file_settled = record { accepted = λ f. grind (arith, f); read = λ f. grind (arith, f); write = λ f. grind (arith, f) }

pub mark_settled : IsSettled MARK_DIFFERS
mark_settled = record { accepted = λ f. grind (arith, f); read = λ f. grind (arith, f); write = λ f. grind (arith, f) }

at_settled : (status settled : ℕ) (rf wf : Type 0) → IsSettled settled → status ≡ settled → HasCauses status rf wf
at_settled status settled rf wf is e =
    record {
      accepted = λ f. is.accepted (sym e ∙ f);
      read = λ f. absurd (is.read (sym e ∙ f));
      write = λ f. absurd (is.write (sym e ∙ f));
    }

pub at_memory : (status : ℕ) (rf wf : Type 0) → status ≡ OUT_OF_MEMORY → HasCauses status rf wf
at_memory status rf wf e =
    record {
      accepted = λ f. grind (arith, e, f);
      read = λ f. absurd (grind (arith, e, f));
      write = λ f. absurd (grind (arith, e, f));
    }

pub at_write : (status : ℕ) (rf wf : Type 0) → wf → status ≡ FAULT_WRITE → HasCauses status rf wf
at_write status rf wf failed e =
    record {
      accepted = λ f. grind (arith, e, f);
      read = λ f. absurd (grind (arith, e, f));
      write = λ f. failed;
    }

pub at_read : (status : ℕ) (rf wf : Type 0) → rf → status ≡ FAULT_READ → HasCauses status rf wf
at_read status rf wf failed e =
    record {
      accepted = λ f. grind (arith, e, f);
      read = λ f. failed;
      write = λ f. absurd (grind (arith, e, f));
    }

-- A reply that was answered.
pub answered_causes :
    (reply : Reply) (status : ℕ) (causes : Causes) (old new : Environment) →
    IsSettled reply.status → IsAnswered reply status causes old new →
    HasCauses status causes.read (causes.sink ⊎ causes.write)
answered_causes reply status causes old new is (inl (inl complete)) = at_settled status reply.status _ _ is complete.0
answered_causes reply status causes old new is (inl (inr (inl cut))) = at_write status _ _ (inl cut.1) cut.0
answered_causes reply status causes old new is (inl (inr (inr cut))) = at_write status _ _ (inr cut.1) cut.0
answered_causes reply status causes old new is (inr memory) = at_memory status _ _ memory.0

-- ---- files

-- No file changed.
pub none_changes : (name : Option (List ℕ)) (old new : Option Files) → new ≡ old → OnlyChanges name old new
none_changes None old new same = same
none_changes (Some name) old new same = inl same

written_changes : (write : Option FileWrite) (old new : Option Files) → new ≡ files_after write old → OnlyChanges (name_of write) old new
written_changes None old new is = is
written_changes (Some write) old new is = inr (Some write.bytes, is)

partly_changes : (write : Option FileWrite) (old new : Option Files) → IsLeftPartly write old new → OnlyChanges (name_of write) old new
partly_changes None old new left = absurd left
partly_changes (Some write) old new (inl same) = inl same
partly_changes (Some write) old new (inr (inl gone)) = inr (None, gone)
partly_changes (Some write) old new (inr (inr part)) = inr (Some part.0, part.3)

-- A reply that was answered.
pub answered_changes :
    (reply : Reply) (status : ℕ) (causes : Causes) (old new : Environment) →
    IsAnswered reply status causes old new → OnlyChanges (name_of reply.write) old.disk.files new.disk.files
answered_changes reply status causes old new (inl (inl complete)) = written_changes reply.write _ _ complete.2
answered_changes reply status causes old new (inl (inr (inl cut))) = none_changes (name_of reply.write) _ _ cut.3
answered_changes reply status causes old new (inl (inr (inr cut))) = partly_changes reply.write _ _ cut.3
answered_changes reply status causes old new (inr memory) = none_changes (name_of reply.write) _ _ memory.2
