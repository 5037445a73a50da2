-- It is looked for among the actors that are left.
use Rattle.std.proofs.Common.{◌≡◌, drop}
use Rattle.game_model.specs.World.{actor_of}
use Rattle.c_worlds.proofs.items.actor_with.Given as goal

abbrev pub invariant-loop-i : goal.invariant-loop-i
invariant-loop-i l = actor_of (drop l.i l.game.world.actors) l.id ≡ actor_of l.game.world.actors l.id
