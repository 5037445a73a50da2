-- What a step sees of the world around its actor, and what it asks of it.
use Rattle.std.specs.Prelude.{◌≡◌, ◌<◌, Bool, IfSome}
use Rattle.world_units.specs.declared.direction.TheConstants.{DIRECTIONS}
use Rattle.game_model.specs.declared.actor.Actor.{Actor}
use Rattle.game_model.specs.declared.ground.Ground.{Ground}
use Rattle.game_model.specs.declared.map.Map.{Map}
use Rattle.game_model.specs.Grid.{Grid}
use Rattle.actor_table.specs.Table.{Table}
use Rattle.grid_routes.specs.Routing.{Routing, AreSized, LooksAt}

-- The cells of a ground on which a building stands.
abbrev pub built_in : Ground → Grid Bool
built_in g = g.blocks.now

-- The table, the router and the blocks have the map's size, and the map a terrain for each cell.
pub record FitsMap (map : Map) (built : Grid Bool) (table : Table) (router : Routing) : Type 0 where
  pub wide : table.width ≡ map.width
  pub high : table.height ≡ map.height
  pub routes : AreSized router map built

-- The same, and the router looks at the map and the blocks.
pub record SeesMap (map : Map) (built : Grid Bool) (table : Table) (router : Routing) : Type 0 where
  pub wide : table.width ≡ map.width
  pub high : table.height ≡ map.height
  pub routes : LooksAt router map built

-- The leg of the actor, if it is on one, has one of the eight directions.
abbrev pub HasDirection : Actor → Type 0
HasDirection a = IfSome a.body.leg (λ leg. leg.dir < DIRECTIONS)
