-- The text of a reply at the sink alone.
use Rattle.std.specs.Prelude.{◌≡◌, ℕ, ◌⊎◌}
use Rattle.base.specs.Cause.{Increased}
use Rattle.base.specs.Written.{Wrote, WrotePrefix}
use Rattle.game_io.specs.SinkState.{SinkState}
use Rattle.command_answers.specs.declared.statuses.TheConstants.{FAULT_WRITE, OUT_OF_MEMORY}
use Rattle.command_answers.specs.Reply.{Reply}

-- The text was written and the status answered; or the sink failed, and a prefix was written.
abbrev pub PrintsReply : Reply → ℕ → (old new : SinkState) → Type 0
PrintsReply reply status old new =
    ((status ≡ reply.status) × Wrote old.written new.written reply.text)
    ⊎ ((status ≡ FAULT_WRITE)
    × Increased old.faults new.faults
    × WrotePrefix old.written new.written reply.text)

-- The same, or memory ran out, and a prefix was written.
abbrev pub MayPrintReply : Reply → ℕ → (old new : SinkState) → Type 0
MayPrintReply reply status old new =
    PrintsReply reply status old new
    ⊎ ((status ≡ OUT_OF_MEMORY) × WrotePrefix old.written new.written reply.text)
