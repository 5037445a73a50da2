-- What is written and the bytes of those that are left are the bytes of all. Those so far fit.
use Rattle.std.proofs.Common.{◌≡◌, ◌++◌, drop, take}
use Rattle.std.specs.List.{All}
use Rattle.sync_hash.specs.FitsFields.{ActorFits}
use Rattle.game_save.specs.SaveBytes.{actors_bytes}
use Rattle.game_save.proofs.save_writing.append_actors.Given as goal

abbrev pub invariant-loop-i : goal.invariant-loop-i
invariant-loop-i g l =
    (l.out.items ++ actors_bytes (drop l.i (g.W.LendsWorld.world_of l.fn.w).actors)
    ≡ l.fn.out.items ++ actors_bytes (g.W.LendsWorld.world_of l.fn.w).actors)
    × All ActorFits (take l.i (g.W.LendsWorld.world_of l.fn.w).actors)
