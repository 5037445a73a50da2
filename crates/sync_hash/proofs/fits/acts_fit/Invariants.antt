-- Those so far fit.
use Rattle.std.proofs.Common.{take}
use Rattle.std.specs.List.{All}
use Rattle.sync_hash.specs.FitsFields.{ActivityFits}
use Rattle.sync_hash.proofs.fits.acts_fit.Given as goal

abbrev pub invariant-loop-activity : goal.invariant-loop-activity
invariant-loop-activity l = All ActivityFits (take l.activity-index l.acts)
