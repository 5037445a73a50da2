-- The frames so far are the same.
use Rattle.std.proofs.Common.{◌≡◌}
use Rattle.compare_command.specs.Each.{least}
use Rattle.compare_command.specs.Found.{with_found}
use Rattle.compare_command.specs.Replays.{differences_in}
use Rattle.compare_command.specs.Walking.{after_frames}
use Rattle.compare_command.proofs.ReplayLemmas.{least_of}
use Rattle.compare_command.proofs.replays.compare_frames.Given as goal

abbrev pub invariant-loop-n : goal.invariant-loop-n
invariant-loop-n l =
    (with_found l.found (least_of (differences_in l.r l.s) l.count l.n)
    ≡ with_found l.initial.found (least (differences_in l.r l.s) 0 l.count))
    × (l.left ≡ after_frames l.n l.r.parts) × (l.others ≡ after_frames l.n l.s.parts)
