-- Marks were passed over.
use Rattle.std.proofs.Common.{◌≡◌, length}
use Rattle.compare_command.specs.Walking.{first_frame}
use Rattle.replay_run.specs.Playing.{after_frame}
use Rattle.compare_command.proofs.walk.next_frame.Given as goal

abbrev pub invariant-loop-kind : goal.invariant-loop-kind
invariant-loop-kind l =
    (first_frame l.left ≡ first_frame l.initial.left) × (after_frame l.left ≡ after_frame l.initial.left)

abbrev pub decreases-loop-kind : goal.decreases-loop-kind
decreases-loop-kind l = length l.left
