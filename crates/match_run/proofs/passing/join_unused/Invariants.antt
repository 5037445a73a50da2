use Rattle.std.proofs.Common.{length}
use Rattle.match_run.proofs.Splitting.{UnusedSoFar}
use Rattle.match_run.proofs.passing.join_unused.Given as goal

abbrev pub invariant-loop-own : goal.invariant-loop-own
invariant-loop-own l = UnusedSoFar l.table l.fn.pass l.pass l.fn.passes.items l.left.items

abbrev pub decreases-loop-own : goal.decreases-loop-own
decreases-loop-own l = length l.left.items
