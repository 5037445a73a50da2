-- The buildings among the first actors are marked.
use Rattle.std.proofs.Common.{◌≡◌, take}
use Rattle.game_tick.specs.Turn.{blocks_of}
use Rattle.c_worlds.proofs.routes.blocks_of.Given as goal

abbrev pub invariant-loop-i : goal.invariant-loop-i
invariant-loop-i l = l.blocks ≡ blocks_of l.game.setup (take l.i l.game.world.actors)
