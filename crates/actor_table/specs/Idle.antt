-- Actors that have nothing to do, and marks that tell of them by their places.
use Rattle.std.specs.Prelude.{◌≡◌, true, Bool, List, [], ◌∷◌, None}
use Rattle.game_model.specs.declared.actor.Actor.{Actor}

-- A step leaves the actor as it is: it has nothing to load, to do, to go or to build.
pub record IsIdle (a : Actor) : Type 0 where
  pub reload : a.body.reload ≡ 0
  pub acts : a.body.acts ≡ []
  pub leg : a.body.leg ≡ None
  pub builds : a.body.builds ≡ []

-- Each actor at whose place there is a mark is idle.
abbrev pub AreIdle : (marks : List Bool) → List Actor → Type 0
AreIdle [] actors = Unit {0}
AreIdle (mark ∷ marks) [] = Unit {0}
AreIdle (mark ∷ marks) (a ∷ actors) = (mark ≡ true → IsIdle a) × AreIdle marks actors
