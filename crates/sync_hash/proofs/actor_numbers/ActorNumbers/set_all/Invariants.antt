-- The actors that are left make of the numbers so far what all make of the first, and there is room.
use Rattle.std.proofs.Common.{◌≡◌, ◌+◌, ◌≤◌, drop, length}
use Rattle.game_model.specs.declared.limits.TheConstants.{MAX_ACTORS}
use Rattle.sync_hash.specs.Kept.{with_numbers}
use Rattle.sync_hash.proofs.actor_numbers.ActorNumbers.set_all.Given as goal

abbrev pub invariant-loop-actor : goal.invariant-loop-actor
invariant-loop-actor l =
    record {
      rest : with_numbers l.self (drop l.actor-index l.actors) ≡ with_numbers l.initial.self l.actors;
      room : length l.self + length (drop l.actor-index l.actors) ≤ MAX_ACTORS;
    }
