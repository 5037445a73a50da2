-- The builds so far are the same.
use Rattle.std.proofs.Common.{◌≡◌}
use Rattle.compare_command.specs.Difference.{same_builds}
use Rattle.compare_command.proofs.SameLemmas.{same_from}
use Rattle.compare_command.proofs.same.same_builds.Given as goal

abbrev pub invariant-loop-i : goal.invariant-loop-i
invariant-loop-i l = same_from l.builds l.others l.i ≡ same_builds l.builds l.others
