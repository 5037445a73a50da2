-- What is outside the program as contracts see it, before or after a call.
use Rattle.std.specs.Prelude.{◌≡◌, ◌≤◌}
use Rattle.game_io.specs.DiskState.{DiskState}
use Rattle.game_io.specs.SinkState.{SinkState}

pub record Environment : Type 0 where
  pub disk : DiskState
  pub sink : SinkState

abbrev pub environment : DiskState → SinkState → Environment
environment disk sink = record { disk = disk; sink = sink }

-- No file changed, and nothing was written.
abbrev pub IsUnchanged : (old new : Environment) → Type 0
IsUnchanged old new =
    (new.disk.files ≡ old.disk.files) × (new.sink.written ≡ old.sink.written)

-- The counts of faults never fall.
abbrev pub IsLater : (old new : Environment) → Type 0
IsLater old new =
    (old.disk.faults ≤ new.disk.faults) × (old.sink.faults ≤ new.sink.faults)
