-- Those so far fit.
use Rattle.std.proofs.Common.{take}
use Rattle.std.specs.List.{All}
use Rattle.sync_hash.specs.FitsFields.{BuildFits}
use Rattle.sync_hash.proofs.fits.builds_fit.Given as goal

abbrev pub invariant-loop-build : goal.invariant-loop-build
invariant-loop-build l = All BuildFits (take l.build-index l.builds)
