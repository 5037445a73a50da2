-- The first cells are written.
use Rattle.std.proofs.Common.{◌≡◌, ◌++◌, map, take, drop}
use Rattle.game_model.specs.Terrain.{number_of}
use Rattle.c_worlds.proofs.ground.write_terrain.Given as goal

abbrev pub invariant-loop-i : goal.invariant-loop-i
invariant-loop-i l = l.out ≡ take l.i (map number_of l.tiles.cells) ++ drop l.i l.fn.out
