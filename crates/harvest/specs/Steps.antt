-- What the step of a harvester makes of a table, the ore and the cash, where the actor is given by
-- its id.
use Rattle.std.specs.Prelude.{◌≡◌, ℕ, Bool, List, Option, Some, None, slice_get, IfSome}
use Rattle.activities.specs.declared.activity.Activity.{Activity}
use Rattle.activities.specs.declared.activity.Activity.TheVariants.{Move, Attack, Harvest, Deliver}
use Rattle.game_model.specs.declared.actor.Actor.{Actor}
use Rattle.game_model.specs.declared.map.Map.{Map}
use Rattle.game_model.specs.Grid.{Grid, IsOn}
use Rattle.game_model.specs.Setup.{Setup}
use Rattle.game_tick.specs.Harvesting.{Harvested, after_harvest, after_deliver}
use Rattle.actor_table.specs.Table.{Table}

-- The table has the actors of the step, and the ore and the cash are those after it.
pub record IsHarvested (old new : Table) (left : Grid ℕ) (purse : List ℕ) (after : Harvested)
    : Type 0 where
  pub actors : new ≡ record old { actors = after.actors }
  pub ore : left ≡ after.ore
  pub cash : purse ≡ after.cash

-- The step of an actor's first activity, where that is a Harvest or a Deliver.
abbrev pub after_first : Setup → Grid Bool → Harvested → Actor → Option Activity → Harvested
after_first setup built before a (Some (Harvest cell timer waits)) =
    after_harvest setup built before a cell timer waits
after_first setup built before a (Some (Deliver home timer waits)) =
    after_deliver setup built before a home timer waits
after_first setup built before a (Some (Move goal waits)) = before
after_first setup built before a (Some (Attack target waits)) = before
after_first setup built before a None = before

-- The same of the actor of an id.
abbrev pub harvested_by_id : Setup → Grid Bool → Harvested → Option Actor → Harvested
harvested_by_id setup built before (Some a) =
    after_first setup built before a (slice_get a.body.acts 0)
harvested_by_id setup built before None = before

-- The cell of a Harvest is on the map.
abbrev pub LeadsOnMap : Map → Activity → Type 0
LeadsOnMap map (Harvest cell timer waits) = IsOn map.width map.height cell
LeadsOnMap map (Deliver home timer waits) = Unit {0}
LeadsOnMap map (Move goal waits) = Unit {0}
LeadsOnMap map (Attack target waits) = Unit {0}

-- The same of an actor's first activity.
abbrev pub HasWay : Map → Actor → Type 0
HasWay map a = IfSome (slice_get a.body.acts 0) (LeadsOnMap map)
