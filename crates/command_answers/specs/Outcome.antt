-- The outcomes of a reply: complete, cut off by a write that failed, or out of memory. `old` and
-- `new` are the outside before and after.
use Rattle.std.specs.Prelude.{◌≡◌, ℕ, ◌⊎◌}
use Rattle.base.specs.Written.{Wrote, WrotePrefix}
use Rattle.command_answers.specs.declared.statuses.TheConstants.{FAULT_WRITE, OUT_OF_MEMORY}
use Rattle.command_answers.specs.FileWrite.{files_after, IsLeftPartly}
use Rattle.command_answers.specs.Reply.{Reply}
use Rattle.command_answers.specs.Causes.{Causes}
use Rattle.command_answers.specs.Environment.{Environment}

-- The status is the reply's, exactly its text was written, and then its file, if it has one.
abbrev pub IsComplete : Reply → ℕ → (old new : Environment) → Type 0
IsComplete reply status old new =
    (status ≡ reply.status)
    × Wrote old.sink.written new.sink.written reply.text
    × (new.disk.files ≡ files_after reply.write old.disk.files)

-- The sink failed, and a prefix of the text was written.
abbrev pub IsTextCutOff : Reply → ℕ → Causes → (old new : Environment) → Type 0
IsTextCutOff reply status causes old new =
    (status ≡ FAULT_WRITE)
    × causes.sink
    × WrotePrefix old.sink.written new.sink.written reply.text
    × (new.disk.files ≡ old.disk.files)

-- The disk failed after the text, in the write of the file.
abbrev pub IsFileCutOff : Reply → ℕ → Causes → (old new : Environment) → Type 0
IsFileCutOff reply status causes old new =
    (status ≡ FAULT_WRITE)
    × causes.write
    × Wrote old.sink.written new.sink.written reply.text
    × IsLeftPartly reply.write old.disk.files new.disk.files

-- Memory ran out, and a prefix of the text was written.
abbrev pub IsOutOfMemory : Reply → ℕ → (old new : Environment) → Type 0
IsOutOfMemory reply status old new =
    (status ≡ OUT_OF_MEMORY)
    × WrotePrefix old.sink.written new.sink.written reply.text
    × (new.disk.files ≡ old.disk.files)

-- The outcomes of a reply that takes no memory.
abbrev pub IsPrinted : Reply → ℕ → Causes → (old new : Environment) → Type 0
IsPrinted reply status causes old new =
    IsComplete reply status old new
    ⊎ (IsTextCutOff reply status causes old new ⊎ IsFileCutOff reply status causes old new)

abbrev pub IsAnswered : Reply → ℕ → Causes → (old new : Environment) → Type 0
IsAnswered reply status causes old new =
    IsPrinted reply status causes old new ⊎ IsOutOfMemory reply status old new
