-- So many frames were skipped.
use Rattle.replay_run.specs.Skipping.{IsSkipped}
use Rattle.replay_run.proofs.frames.parts_after.Given as goal

abbrev pub invariant-loop-skipped : goal.invariant-loop-skipped
invariant-loop-skipped l = IsSkipped l.r l.from l._skipped l.left
