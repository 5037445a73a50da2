use Rattle.std.proofs.Common.{refl}
use Rattle.match_run.proofs.TakenFrames.{frame_step}
use Rattle.match_run.proofs.ticking.tick.Goals as goal

pub loop-own-preserved : goal.loop-own-preserved
loop-own-preserved g c =
    frame_step c.args.scripts.now c.args.taken.now c.args.n c.loop-own.own-index c.loop-own.frame c.add_to.new.frame _ c.own-item.result c.own-item.is c.loop-own-test.true
    c.requires.taken c.requires.has c.loop-own.invariant refl c.add_to.ensures
