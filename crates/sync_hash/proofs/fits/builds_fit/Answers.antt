use Rattle.std.proofs.lemmas.List.Elements.{All-more}
use Rattle.sync_hash.specs.FitsFields.{BuildFits}
use Rattle.sync_hash.proofs.fits.builds_fit.Goals as goal

pub loop-build-preserved : goal.loop-build-preserved
loop-build-preserved c =
    All-more BuildFits c.args.builds.now c.loop-build.build-index _ c.loop-build-test.true c.loop-build.invariant c.build_fits.ensures
