-- A sink as contracts see it, and what a call that writes to it did.
use Rattle.std.specs.Prelude.{ℕ, ◌≤◌, List, Option, Result, OnOk, OnErr}
use Rattle.base.specs.Cause.{Increased}
use Rattle.base.specs.Written.{Wrote, WrotePrefix}

-- The bytes that were written, where they are observable, and how often it has failed, up to the
-- greatest 64-bit number.
pub record SinkState : Type 0 where
  pub written : Option (List ℕ)
  pub faults : ℕ

-- A call wrote these bytes: all of them where it answers `Ok`, else a prefix of them. The count of
-- faults never falls. Where `is_write_fault` holds, that is, where the answer is that a write
-- failed, the count rose.
pub record WritesBytes {T E : Type 0}
    (old new : SinkState) (bytes : List ℕ) (result : Result T E) (is_write_fault : Type 0)
    : Type 0 where
  pub wrote : OnOk result (Wrote old.written new.written bytes)
  pub prefix : OnErr result (WrotePrefix old.written new.written bytes)
  pub later : old.faults ≤ new.faults
  pub failed : is_write_fault → Increased old.faults new.faults
