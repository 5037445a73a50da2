use Rattle.std.proofs.Common.{◌+◌, length}
use Rattle.frame_table.specs.Calls.{view_of}
use Rattle.match_run.specs.Passes.{shares_of}
use Rattle.match_run.proofs.LocalPasses.{JoinedSoFar}
use Rattle.match_run.proofs.passing.join_passes.Given as goal

abbrev pub invariant-loop-own : goal.invariant-loop-own
invariant-loop-own l = JoinedSoFar l.scripts l.table l.fn.pass l.pass l.left.items ((view_of l.fn.pass).share + shares_of l.fn.passes.items)

abbrev pub decreases-loop-own : goal.decreases-loop-own
decreases-loop-own l = length l.left.items
