-- Actors whose step changes nothing as long as no unit comes out.
use Rattle.std.specs.Prelude.{◌≡◌, List, [], ◌∷◌, None}
use Rattle.game_model.specs.declared.actor.Actor.{Actor}
use Rattle.game_model.specs.declared.builds.Build.{Build}

-- Of the first build, if there is one, no turn is left.
abbrev pub IsFirstBuilt : List Build → Type 0
IsFirstBuilt [] = Unit {0}
IsFirstBuilt (build ∷ later) = build.left ≡ 0

-- The actor has nothing to load, to do or to go, and its first build waits for its unit to come out.
pub record IsWaiting (a : Actor) : Type 0 where
  pub reload : a.body.reload ≡ 0
  pub acts : a.body.acts ≡ []
  pub leg : a.body.leg ≡ None
  pub builds : IsFirstBuilt a.body.builds
