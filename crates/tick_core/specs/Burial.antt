-- What a hasher keeps as it is told of actors that may have died.
use Rattle.std.specs.Prelude.{◌≡◌, if◌then◌else◌, List, Option, Some, None, map}
use Rattle.std.specs.List.{filter}
use Rattle.game_model.specs.declared.actor.Actor.{Actor}
use Rattle.game_model.specs.World.{is_alive}
use Rattle.sync_hash.specs.declared.actor_number.ActorNumber.{ActorNumber}
use Rattle.sync_hash.specs.Kept.{Kept, numbered, without_number}

-- The numbers without that of the actor, if it has no health.
abbrev pub without_dead : List ActorNumber → Actor → List ActorNumber
without_dead numbers a = if is_alive a then numbers else without_number numbers a.id

-- What is kept, if anything is, has the numbers of these actors.
abbrev pub AreNumberedIf : Option Kept → List Actor → Type 0
AreNumberedIf None actors = Unit {0}
AreNumberedIf (Some kept) actors = kept.actors ≡ map numbered actors

-- What is kept, if anything is, without the numbers of those of these actors that have no health.
abbrev pub without_dead_if : Option Kept → List Actor → Option Kept
without_dead_if None actors = None
without_dead_if (Some kept) actors =
    Some (record kept { actors = map numbered (filter is_alive actors) })
