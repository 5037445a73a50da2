use Rattle.std.proofs.Common.{◌∙◌, arith}
use Rattle.grid_routes.proofs.Entering.{put-next, put-row}
use Rattle.grid_routes.proofs.surface.Surface.renew_row.Goals as goal

pub loop-x-preserved : goal.loop-x-preserved
loop-x-preserved c =
    let size = c.loop-x.invariant.0 in
    let one = c.renew.ensures.size in (
      record { width = one.width ∙ size.width; height = one.height ∙ size.height },
      put-next _ _ _ (record { x = c.loop-x.x; y = c.args.y }) c.loop-x.invariant.1 c.renew.ensures,
    )

pub returns-clause-put : goal.returns-clause-put
returns-clause-put c =
    let size = c.loop-x.invariant.0 in
    put-row _ _ _ c.loop-x.x (omega (arith, size.width, c.requires.terrain.width, c.width-x-end.ensures)) c.loop-x.invariant.1
