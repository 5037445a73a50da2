-- The numbers by which terrains are stored.
use Rattle.std.specs.Prelude.{◌≡◌, ◌*◌, ℕ, List, length, map}
use Rattle.game_model.specs.Terrain.{number_of, terrain_of}

-- There is a number for each cell of this size, and each is a terrain's.
pub record AreTerrains (width height : ℕ) (numbers : List ℕ) : Type 0 where
  pub whole : length numbers ≡ width * height
  pub told : map number_of (map terrain_of numbers) ≡ numbers
