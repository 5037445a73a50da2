use Rattle.report_line.specs.Reports.{AreNewEnds}
use Rattle.report_line.proofs.reporting.report_queue.Given as goal

abbrev pub invariant-loop-end : goal.invariant-loop-end
invariant-loop-end l = AreNewEnds l._end l.made l.receiver
