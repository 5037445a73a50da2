-- Actors that have nothing to do.
use Rattle.std.specs.Prelude.{◌≡◌, [], None}
use Rattle.game_model.specs.declared.actor.Actor.{Actor}

-- The actor has nothing to do: no activities, no leg and no builds.
pub record IsIdle (a : Actor) : Type 0 where
  pub acts : a.body.acts ≡ []
  pub leg : a.body.leg ≡ None
  pub builds : a.body.builds ≡ []
