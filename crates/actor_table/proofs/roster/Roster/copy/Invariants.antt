use Rattle.std.proofs.Common.{◌≡◌, take, map}
use Rattle.actor_table.specs.Places.{actor_in}
use Rattle.actor_table.proofs.roster.Roster.copy.Given as goal

abbrev pub invariant-loop-place : goal.invariant-loop-place
invariant-loop-place l = l.copies.items ≡ map (actor_in l.self-inside.slots) (take l.place-index l.place-items)
