-- Those so far are held.
use Rattle.std.proofs.Common.{take}
use Rattle.std.specs.List.{All}
use Rattle.world_text.specs.Numbers.{IsActorHeld}
use Rattle.world_text.proofs.held.actors_held.Given as goal

abbrev pub invariant-loop-actor : goal.invariant-loop-actor
invariant-loop-actor l = All IsActorHeld (take l.actor-index l.actors)
