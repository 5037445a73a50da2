-- What the end of a turn makes of a world.
use Rattle.std.specs.Prelude.{◌≡◌, ℕ, ◌+◌, true}
use Rattle.std.specs.List.{All}
use Rattle.game_model.specs.declared.actor.Actor.{Actor}
use Rattle.game_model.specs.declared.world.World.{World}
use Rattle.game_model.specs.World.{is_alive, living_of}

-- After a turn all actors live. Whoever lived after the last step is there, as it was then. Nothing
-- else changes but the count of ticks: for the dead nothing is paid, and no id is given again.
pub record EndsTurn (stepped after : World) : Type 0 where
  pub all_live : All (λ (a : Actor). is_alive a ≡ true) after.actors
  pub living_stay : (id : ℕ) → living_of after.actors id ≡ living_of stepped.actors id
  pub rest : after ≡ record stepped { actors = after.actors; tick = stepped.tick + 1 }
