use Rattle.std.proofs.Common.{◌≡◌, ◌<◌, ◌≤◌, ℕ, List, length}
use Rattle.game_orders.specs.declared.order.Order.{Order}
use Rattle.frame_table.specs.Calls.{view_of, standing, HasSeen}
use Rattle.match_run.specs.Feeding.{HasFedAll}
use Rattle.match_run.specs.Passes.{IsLocalPass, KnowsAllSeen}
use Rattle.match_run.specs.Taken.{AreTaken}
use Rattle.match_run.proofs.ticking.take_more.Given as goal

abbrev pub invariant-loop-c : goal.invariant-loop-c
invariant-loop-c g l =
    IsLocalPass l.scripts l.table l.pass
    × KnowsAllSeen l.scripts l.pass
    × ((view_of l.pass).share ≡ (view_of l.initial.pass).share)
    × ((d : ℕ) → l.c ≤ d → d < length l.scripts → HasSeen (standing l.pass d).reach l.n)
    × AreTaken l.scripts l.taken l.n
    × ((plays : ℕ → List (List Order)) → HasFedAll (length l.scripts) l.table plays l.initial.pass → HasFedAll (length l.scripts) l.table plays l.pass)
    × (l.c-end ≡ length l.scripts)
