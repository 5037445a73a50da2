use Rattle.std.proofs.Common.{◌≡◌, ◌≤◌}
use Rattle.match_run.proofs.Splitting.{SplitSoFar}
use Rattle.match_run.proofs.passing.split_passes.Given as goal

abbrev pub invariant-loop-client : goal.invariant-loop-client
invariant-loop-client l = SplitSoFar l.table l.fn.pass l.pass l.passes.items l.first l.client × (l.first ≤ l.client)
