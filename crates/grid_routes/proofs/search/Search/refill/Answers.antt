use Rattle.std.proofs.Common.{arith}
use Rattle.grid_routes.proofs.Filling.{fill-all}
use Rattle.grid_routes.proofs.search.Search.refill.Goals as goal

pub returns-clause-queued : goal.returns-clause-queued
returns-clause-queued c =
    rw c.loop-y.invariant.1
    (fill-all _ _ c.loop-y.y (omega (arith, c.height-y-end.ensures)) c.loop-y.invariant.3)
