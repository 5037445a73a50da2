use Rattle.std.proofs.Common.{◌≡◌, replicate}
use Rattle.frame_table.specs.declared.planned.Planned.TheVariants.{Free}
use Rattle.thread_tests.proofs.tables.begin.Given as goal

abbrev pub invariant-loop-client : goal.invariant-loop-client
invariant-loop-client l = l.plan ≡ replicate l._client Free
