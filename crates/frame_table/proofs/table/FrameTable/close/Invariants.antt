use Rattle.std.proofs.Common.{◌≡◌, length}
use Rattle.frame_table.specs.Calls.{view_of, plan_of, ClosedSoFar}
use Rattle.frame_table.proofs.table.FrameTable.close.Given as goal

abbrev pub invariant-loop-c : goal.invariant-loop-c
invariant-loop-c g l =
    (l.pass.seat.table_id ≡ l.initial.pass.seat.table_id)
    × (l.table.inner ≡ l.initial.table.inner)
    × ClosedSoFar (view_of l.initial.pass) (view_of l.pass) l.table.whole (length (plan_of l.initial.table)) l.c
    × (l.c-end ≡ length (plan_of l.initial.table))
