use Rattle.std.proofs.Common.{◌≡◌, ◌≤◌, ◌++◌, length, take, drop}
use Rattle.std.specs.List.{filter}
use Rattle.game_model.specs.World.{is_alive}
use Rattle.actor_table.proofs.table.ActorTable.bury_all.Given as goal

abbrev pub invariant-loop-left : goal.invariant-loop-left
invariant-loop-left l =
    let first = l.initial.self in
    record {
      within : l.left ≤ length first.actors;
      done : l.self ≡ record first { actors = take l.left first.actors ++ filter is_alive (drop l.left first.actors) };
    }

abbrev pub decreases-loop-left : goal.decreases-loop-left
decreases-loop-left l = l.left
