-- The actors so far and those of the starts that are left are all.
use Rattle.std.proofs.Common.{◌≡◌, ◌+◌, ◌++◌, drop}
use Rattle.game_model.specs.World.{opening_actors}
use Rattle.tick_core.proofs.opening.opening_actors.Given as goal

abbrev pub invariant-loop-start : goal.invariant-loop-start
invariant-loop-start l =
    record {
      rest :
          l.actors.items ++ opening_actors l.rules l.clients l.id (drop l.start-index l.starts)
          ≡ opening_actors l.rules l.clients 1 l.starts;
      next : l.id ≡ l.start-index + 1;
    }
