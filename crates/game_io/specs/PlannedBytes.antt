-- Bytes in a memory form, of which chosen calls fail.
use Rattle.std.specs.Prelude.{ℕ, List, [], ◌++◌, take, Some}
use Rattle.game_io.specs.Plan.{Plan, called, missed, faults_of}
use Rattle.game_io.specs.SinkState.{SinkState}
use Rattle.game_io.specs.SourceState.{SourceState}
use Rattle.game_io.specs.declared.failing_call.Remains.{Remains}
use Rattle.game_io.specs.declared.failing_call.Remains.TheVariants.{Old, Nothing, Prefix}

-- Bytes that are left or were written, and the plan of the calls.
pub record PlannedBytes : Type 0 where
  pub bytes : List ℕ
  pub plan : Plan

-- A sink, and a source, that hold these bytes: all of them are observable.
abbrev pub sink_state : PlannedBytes → SinkState
sink_state held = record { written = Some held.bytes; faults = faults_of held.plan }

abbrev pub source_state : PlannedBytes → SourceState
source_state held = record { left = Some held.bytes; faults = faults_of held.plan }

-- One call more, by which these bytes were written.
abbrev pub with_bytes : PlannedBytes → List ℕ → PlannedBytes
with_bytes held bytes = record { bytes = held.bytes ++ bytes; plan = called held.plan }

-- One call more that was out of memory for its bytes, and was counted as a fault.
abbrev pub without_memory : PlannedBytes → PlannedBytes
without_memory held = record { bytes = held.bytes; plan = missed (called held.plan) }

-- What remains of the bytes that a call was to write and that failed.
abbrev pub remaining : Remains → List ℕ → List ℕ
remaining Old bytes = []
remaining Nothing bytes = []
remaining (Prefix count) bytes = take count bytes
