-- Marks were passed over.
use Rattle.std.proofs.Common.{◌≡◌, length}
use Rattle.replay_file.specs.Frames.{frames_of}
use Rattle.replay_run.specs.Playing.{after_frame}
use Rattle.replay_run.proofs.frames.next_frame.Given as goal

abbrev pub invariant-loop-kind : goal.invariant-loop-kind
invariant-loop-kind l =
    (frames_of l.left ≡ frames_of l.initial.left) × (after_frame l.left ≡ after_frame l.initial.left)

abbrev pub decreases-loop-kind : goal.decreases-loop-kind
decreases-loop-kind l = length l.left
