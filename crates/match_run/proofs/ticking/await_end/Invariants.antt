use Rattle.std.proofs.Common.{ℕ, length}
use Rattle.frame_core.specs.Column.{Column}
use Rattle.match_run.specs.Feeding.{HasEndedAll}
use Rattle.match_run.proofs.LocalTicks.{WaitedSoFar}
use Rattle.match_run.proofs.ticking.await_end.Given as goal

abbrev pub invariant-loop-turn : goal.invariant-loop-turn
invariant-loop-turn g l =
    WaitedSoFar l.scripts l.table l.initial.pass l.pass
    × ((columns : ℕ → Column) → HasEndedAll (length l.scripts) l.table columns l.initial.pass → HasEndedAll (length l.scripts) l.table columns l.pass)
