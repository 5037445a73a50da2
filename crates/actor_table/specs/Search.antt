-- Where an id stands in a list of actors.
use Rattle.std.specs.Prelude.{◌≡◌, ◌≢◌, ℕ, List, Some, slice_get}
use Rattle.std.specs.List.{AllByRecursion}
use Rattle.game_model.specs.declared.actor.Actor.{Actor}
use Rattle.game_model.specs.World.{ids_of}

-- The actor at this place has the id.
abbrev pub IsAt : List Actor → ℕ → ℕ → Type 0
IsAt actors id at = slice_get (ids_of actors) at ≡ Some id

-- No actor has the id.
abbrev pub IsAbsent : List Actor → ℕ → Type 0
IsAbsent actors id = AllByRecursion (λ (a : Actor). a.id ≢ id) actors
