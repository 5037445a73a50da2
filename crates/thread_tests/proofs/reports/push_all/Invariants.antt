use Rattle.std.proofs.Common.{◌≡◌, ◌++◌, take}
use Rattle.report_line.specs.Reports.{pushed, IsSameEnd}
use Rattle.thread_tests.proofs.reports.push_all.Given as goal

abbrev pub invariant-loop-report : goal.invariant-loop-report
invariant-loop-report g l = IsSameEnd l.fn.end l.own × (pushed l.own ≡ pushed l.fn.end ++ take l.report-index l.reports)
