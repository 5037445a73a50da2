-- What is seen of a router.
use Rattle.std.specs.Prelude.{◌≡◌, ℕ, Bool, List, [], Option, None}
use Rattle.game_model.specs.declared.map.Map.{Map}
use Rattle.game_model.specs.declared.terrain.Terrain.{Terrain}
use Rattle.game_model.specs.Grid.{Grid, HasSize}
use Rattle.grid_routes.specs.declared.ask.Ask.{Ask}

-- The size of the maps that it serves, the ground that it looks at, the question to which the field
-- belongs that it wrote last, all questions for which it keeps something, and how many fields of
-- distances it began.
pub record Routing : Type 0 where
  pub width : ℕ
  pub height : ℕ
  pub terrain : Grid Terrain
  pub built : Grid Bool
  pub last : Option Ask
  pub asks : List Ask
  pub computed : ℕ

-- A router for maps of this size that began no field and keeps nothing for any question.
pub record IsNew (width height : ℕ) (router : Routing) : Type 0 where
  pub wide : router.width ≡ width
  pub high : router.height ≡ height
  pub none : router.computed ≡ 0
  pub unasked : router.last ≡ None
  pub nothing : router.asks ≡ []

-- The map has this size, and a terrain for each of its cells.
pub record IsMapSized (width height : ℕ) (map : Map) : Type 0 where
  pub wide : map.width ≡ width
  pub high : map.height ≡ height
  pub terrain : HasSize width height map.terrain

-- The router and the blocks have the map's size, and the map has one terrain for each cell.
pub record AreSized (router : Routing) (map : Map) (built : Grid Bool) : Type 0 where
  pub wide : router.width ≡ map.width
  pub high : router.height ≡ map.height
  pub terrain : HasSize map.width map.height map.terrain
  pub blocks : HasSize map.width map.height built

-- A router serves maps of the same size as before.
pub record IsSameSize (old new : Routing) : Type 0 where
  pub wide : new.width ≡ old.width
  pub high : new.height ≡ old.height

-- The router looks at the terrain of this map and at these buildings.
pub record LooksAt (router : Routing) (map : Map) (built : Grid Bool) : Type 0 where
  pub sizes : AreSized router map built
  pub terrain : router.terrain ≡ map.terrain
  pub blocks : router.built ≡ built

-- A router serves maps of the same size as before, and looks at the same ground.
pub record IsSameSight (old new : Routing) : Type 0 where
  pub size : IsSameSize old new
  pub terrain : new.terrain ≡ old.terrain
  pub built : new.built ≡ old.built
