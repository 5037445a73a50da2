use Rattle.std.proofs.lemmas.List.Elements.{All-more}
use Rattle.sync_hash.specs.FitsFields.{ActivityFits}
use Rattle.sync_hash.proofs.fits.acts_fit.Goals as goal

pub loop-activity-preserved : goal.loop-activity-preserved
loop-activity-preserved c =
    All-more ActivityFits c.args.acts.now c.loop-activity.activity-index _ c.loop-activity-test.true c.loop-activity.invariant c.activity_fits.ensures
