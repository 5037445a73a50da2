-- No marks so far differ.
use Rattle.std.proofs.Common.{◌≡◌, ◌+◌}
use Rattle.compare_command.specs.Each.{least}
use Rattle.compare_command.specs.Found.{with_found}
use Rattle.compare_command.specs.Replays.{mark_differences}
use Rattle.compare_command.specs.Walking.{after_frames}
use Rattle.compare_command.proofs.ReplayLemmas.{least_of}
use Rattle.compare_command.proofs.replays.compare_marks.Given as goal

abbrev pub invariant-loop-n : goal.invariant-loop-n
invariant-loop-n l =
    (with_found l.found (least_of (mark_differences l.r l.s) (l.count + 1) l.n)
    ≡ with_found l.initial.found (least (mark_differences l.r l.s) 0 (l.count + 1)))
    × (l.left ≡ after_frames l.n l.r.parts) × (l.others ≡ after_frames l.n l.s.parts)
