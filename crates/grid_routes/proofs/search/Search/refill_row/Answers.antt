use Rattle.std.proofs.Common.{arith}
use Rattle.grid_routes.proofs.Filling.{fill-row}
use Rattle.grid_routes.proofs.search.Search.refill_row.Goals as goal

pub returns-clause-filled : goal.returns-clause-filled
returns-clause-filled c =
    rw c.loop-x.invariant.1
    (fill-row _ _ _ c.loop-x.x (omega (arith, c.width-x-end.ensures)) (omega (arith, c.width-x-end.ensures)) c.loop-x.invariant.3)
