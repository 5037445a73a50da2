-- Those so far fit.
use Rattle.std.proofs.Common.{take}
use Rattle.std.specs.List.{All}
use Rattle.sync_hash.specs.FitsFields.{ActorFits}
use Rattle.sync_hash.proofs.fits.actors_fit.Given as goal

abbrev pub invariant-loop-actor : goal.invariant-loop-actor
invariant-loop-actor l = All ActorFits (take l.actor-index l.actors)
