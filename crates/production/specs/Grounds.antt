-- What lies around an actor, as definitions of steps see it.
use Rattle.std.specs.Prelude.{◌≡◌}
use Rattle.game_model.specs.declared.ground.Ground.{Ground}
use Rattle.game_model.specs.Grid.{HasSize}
use Rattle.actor_table.specs.Table.{Table}

-- The table and the terrain have the size of the map.
pub record AreSized (table : Table) (g : Ground) : Type 0 where
  pub width : table.width ≡ g.map.now.width
  pub height : table.height ≡ g.map.now.height
  pub terrain : HasSize g.map.now.width g.map.now.height g.map.now.terrain
