-- The first actors stand in the roster.
use Rattle.std.proofs.Common.{◌≡◌, take}
use Rattle.actor_table.proofs.roster.Roster.filled.Given as goal

abbrev pub invariant-loop-actor : goal.invariant-loop-actor
invariant-loop-actor l = l.roster ≡ take l.actor-index l.actors
