use Rattle.thread_tests.specs.Tables.{IsFeedingPass}
use Rattle.thread_tests.proofs.tables.kicked.Given as goal

abbrev pub invariant-loop-n : goal.invariant-loop-n
invariant-loop-n g l = IsFeedingPass l.table l.feeder
