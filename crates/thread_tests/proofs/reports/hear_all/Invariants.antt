use Rattle.std.proofs.Common.{◌≡◌}
use Rattle.report_line.specs.Reports.{heard, joined, ends_of}
use Rattle.thread_tests.proofs.reports.hear_all.Given as goal

abbrev pub invariant-loop : goal.invariant-loop
invariant-loop g l = (l.all.items ≡ heard l.own) × (joined l.own ≡ joined l.fn.receiver) × (ends_of l.own ≡ ends_of l.fn.receiver)
