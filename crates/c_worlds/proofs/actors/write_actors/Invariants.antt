-- The first actors are written.
use Rattle.std.proofs.Common.{◌≡◌, ◌++◌, map, take, drop}
use Rattle.c_worlds.specs.Actors.{c_actor_of}
use Rattle.c_worlds.proofs.actors.write_actors.Given as goal

abbrev pub invariant-loop-i : goal.invariant-loop-i
invariant-loop-i l = l.out ≡ take l.i (map c_actor_of l.game.world.actors) ++ drop l.i l.fn.out
