use Rattle.std.proofs.Common.{ℕ, List, length}
use Rattle.game_orders.specs.declared.order.Order.{Order}
use Rattle.match_run.specs.Feeding.{HasFedAll}
use Rattle.match_run.specs.Taken.{AreTaken}
use Rattle.match_run.proofs.LocalTicks.{WaitedSoFar}
use Rattle.match_run.proofs.ticking.take_frame.Given as goal

abbrev pub invariant-loop-turn : goal.invariant-loop-turn
invariant-loop-turn g l =
    WaitedSoFar l.scripts l.table l.initial.pass l.pass
    × AreTaken l.scripts l.taken l.n
    × ((plays : ℕ → List (List Order)) → HasFedAll (length l.scripts) l.table plays l.initial.pass → HasFedAll (length l.scripts) l.table plays l.pass)
