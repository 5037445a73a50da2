-- The build step of the actor of an id.
use Rattle.std.specs.Prelude.{ℕ, List, Option, Some, None}
use Rattle.game_model.specs.declared.actor.Actor.{Actor}
use Rattle.game_model.specs.Setup.{Setup}
use Rattle.game_tick.specs.Building.{Built, after_build}

-- The actors and the next id after the step. Where there is no such actor, they stay.
abbrev pub built_by_id : Setup → List Actor → (next_id : ℕ) → Option Actor → Built
built_by_id setup actors next_id (Some a) = after_build setup actors next_id a
built_by_id setup actors next_id None = record { actors = actors; next_id = next_id }
