-- The frames so far were written, each with its mark.
use Rattle.std.proofs.Common.{◌≡◌, ◌++◌}
use Rattle.std.specs.List.{AllByRecursion}
use Rattle.replay_file.specs.PartBytes.{parts_bytes, FitsPart}
use Rattle.replay_run.specs.Recording.{recorded_by}
use Rattle.replay_run.proofs.recording.write_frames.Given as goal

abbrev pub invariant-loop-n : goal.invariant-loop-n
invariant-loop-n g l =
    (l.writer
    ≡ l.initial.writer ++ parts_bytes (recorded_by l.server.columns l.server.marks l.n))
    × AllByRecursion FitsPart (recorded_by l.server.columns l.server.marks l.n)
