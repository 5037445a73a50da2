use Rattle.std.proofs.Common.{◌≡◌, []}
use Rattle.case_runs.proofs.case.Case.net.Given as goal

abbrev pub invariant-loop-link : goal.invariant-loop-link
invariant-loop-link l = l.net.given ≡ []
