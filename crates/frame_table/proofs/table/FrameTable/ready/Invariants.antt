use Rattle.std.proofs.Common.{◌≡◌, length}
use Rattle.frame_table.specs.Calls.{view_of, plan_of, IsPassOf, LookedSoFar}
use Rattle.frame_table.proofs.table.FrameTable.ready.Given as goal

abbrev pub invariant-loop-c : goal.invariant-loop-c
invariant-loop-c l =
    IsPassOf l.self l.pass × LookedSoFar (view_of l.initial.pass) (view_of l.pass) l.n l.c l.played × (l.c-end ≡ length (plan_of l.self))
