use Rattle.std.specs.Prelude.{IsErr}
use Rattle.std.proofs.Common.{rules, ℕ, List, ◌≤◌, Some, Err, arith}
use Rattle.base.specs.Cause.{Increased}
use Rattle.base.specs.Written.{WrotePrefix}
use Rattle.game_io.specs.SinkState.{WritesBytes}
use Rattle.game_io.specs.Plan.{faults_of}
use Rattle.game_io.specs.PlannedBytes.{PlannedBytes, sink_state, remaining}
use Rattle.game_io.specs.declared.failing_call.Remains.{Remains}
use Rattle.game_io.proofs.RemainingLemmas.{wrote_remaining}
use Rattle.game_io.proofs.mem_sink.MemSinkSink.put.Goals as goal

not_fallen : (before between now : ℕ) → before ≤ between → between ≤ now → before ≤ now
not_fallen before between now first second = omega arith

risen : (before between now : ℕ) → Increased before between → between ≤ now → Increased before now
risen before between now first second = omega arith

-- A put that fails by its plan, from what the call's beginning and the addition of what remains
-- did.
failed_put :
    {E : Type 0} (error : E) (old new : PlannedBytes) (between : ℕ) (remains : Remains) (piece : List ℕ) →
    WrotePrefix (Some old.bytes) (Some new.bytes) (remaining remains piece) → Increased (faults_of old.plan) between →
    faults_of old.plan ≤ between → between ≤ faults_of new.plan →
    WritesBytes {T = Unit {0}} (sink_state old) (sink_state new) piece (Err error) (IsErr {T = Unit {0}} (Err error))
failed_put error old new between remains piece prefix rose first second =
    record {
      wrote = tt;
      prefix = wrote_remaining (Some old.bytes) (Some new.bytes) remains piece prefix;
      later = not_fallen (faults_of old.plan) between (faults_of new.plan) first second;
      failed = λ _. risen (faults_of old.plan) between (faults_of new.plan) rose second;
    }

pub returns-in-Some-clause-puts : goal.returns-in-Some-clause-puts
returns-in-Some-clause-puts c =
    failed_put (record {}) c.args.self.now c.add-written.new.self (faults_of c.next.new.self) c.in-Some.remains c.args.piece.now
    (search rules) (rw (← c.self.view_is) c.in-Some.ensures.rose) (rw (← c.self.view_is) c.next.ensures.later) c.add-written.ensures.later
