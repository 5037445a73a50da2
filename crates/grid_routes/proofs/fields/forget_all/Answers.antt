use Rattle.std.proofs.Common.{arith}
use Rattle.grid_routes.proofs.Keeping.{forgotten-none, forgotten-step}
use Rattle.grid_routes.proofs.fields.forget_all.Goals as goal

pub loop-place-init : goal.loop-place-init
loop-place-init c = forgotten-none _

pub loop-place-preserved : goal.loop-place-preserved
loop-place-preserved c =
    forgotten-step _ c.loop-place.kept.items c.loop-place.place c.index_mut.result.now c.loop-place.invariant
    (omega (arith, c.len-place-end.ensures, c.args.kept.now.ok.0)) c.index_mut.ensures.value
