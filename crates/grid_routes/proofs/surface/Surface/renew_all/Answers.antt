use Rattle.std.proofs.Common.{arith, refl}
use Rattle.grid_routes.proofs.Entering.{put-all, put-none}
use Rattle.grid_routes.proofs.surface.Surface.renew_all.Goals as goal

pub loop-y-init : goal.loop-y-init
loop-y-init c = (record { width = refl; height = refl }, put-none _ _)

pub returns-clause-footing : goal.returns-clause-footing
returns-clause-footing c =
    let size = c.loop-y.invariant.0 in
    put-all _ _ c.loop-y.y (omega (arith, size.height, c.requires.terrain.height, c.height-y-end.ensures)) c.loop-y.invariant.1
