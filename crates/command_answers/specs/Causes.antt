-- What may have failed in a call. Each field is that the count of faults of an object rose in it. A
-- disk has one count for its reads and its writes, which does not tell them apart: where it rose in
-- a command that writes a file, both fields of the disk hold, whichever of the two failed.
use Rattle.std.specs.Prelude.{ℕ, List, Option, IsSome}
use Rattle.base.specs.Cause.{Increased}
use Rattle.command_answers.specs.Environment.{Environment}

pub record Causes : Type 1 where
  -- The disk, in a read, as far as its count tells.
  pub read : Type 0
  -- The disk, in a command that writes a file.
  pub write : Type 0
  -- The sink.
  pub sink : Type 0
  -- The net, or a link whose fault ends the command.
  pub net : Type 0

-- The causes of a command that uses no net, and writes the file of this name, if one is given.
abbrev pub causes_of : (written : Option (List ℕ)) → (old new : Environment) → Causes
causes_of written old new = record {
  read = Increased old.disk.faults new.disk.faults;
  write = IsSome written × Increased old.disk.faults new.disk.faults;
  sink = Increased old.sink.faults new.sink.faults;
  net = ⊥;
}

-- Nothing failed.
pub record IsQuiet (causes : Causes) : Type 0 where
  pub read : causes.read → ⊥
  pub write : causes.write → ⊥
  pub sink : causes.sink → ⊥
  pub net : causes.net → ⊥
