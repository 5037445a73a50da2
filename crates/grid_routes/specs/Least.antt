-- What the distance and the best direction as functions are among all walks.
use Rattle.std.specs.Prelude.{◌≡◌, ◌↔◌, ℕ, Option, Some, None}
use Rattle.world_units.specs.declared.cell.CPos.{CPos}
use Rattle.game_model.specs.declared.map.Map.{Map}
use Rattle.game_model.specs.Walks.{Land, HasNoWalk, IsBestDirection, IsDistance}
use Rattle.game_model.specs.BestDirection.{best_dir_of, distance_of}

-- On this land the two functions, which try walks of bounded length, are right for all walks.
pub record AreLeast (map : Map) (land : Land) : Type 0 where
  -- The distance is the least cost of all walks,
  pub distance : (p : CPos) (n : ℕ) → IsDistance land p n ↔ (distance_of map land p ≡ Some n)
  -- and there is none exactly where there is no walk.
  pub none : (p : CPos) → HasNoWalk land p ↔ (distance_of map land p ≡ None)
  -- The best direction is the least that begins a walk of least cost.
  pub best :
      (p : CPos) (answer : Option ℕ) →
      IsBestDirection land p answer ↔ (answer ≡ best_dir_of map land p)
