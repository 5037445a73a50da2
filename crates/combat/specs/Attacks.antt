-- What the step of an attack makes of a table and of the dice, where the actor is given by its id.
use Rattle.std.specs.Prelude.{◌≡◌, Bool, List, Option, Some, None, slice_get}
use Rattle.twister.specs.Place.{Place}
use Rattle.activities.specs.declared.activity.Activity.{Activity}
use Rattle.activities.specs.declared.activity.Activity.TheVariants.{Move, Attack, Harvest, Deliver}
use Rattle.game_model.specs.declared.actor.Actor.{Actor}
use Rattle.game_model.specs.Grid.{Grid}
use Rattle.game_model.specs.Setup.{Setup}
use Rattle.game_tick.specs.Attacking.{Fought, after_attack}
use Rattle.actor_table.specs.Table.{Table}

-- The table has the actors of the step, and the dice are at its place.
pub record IsFought (old new : Table) (rolled : Place) (fought : Fought) : Type 0 where
  pub actors : new ≡ record old { actors = fought.actors }
  pub dice : rolled ≡ fought.dice

-- Nothing has changed.
abbrev pub unchanged : List Actor → Place → Fought
unchanged actors dice = record { actors = actors; dice = dice }

-- The step of an actor's first activity, where that is an Attack.
abbrev pub after_first : Setup → Grid Bool → Place → List Actor → Actor → Option Activity → Fought
after_first setup built dice actors a (Some (Attack target waits)) =
    after_attack setup built dice actors a target waits
after_first setup built dice actors a (Some (Move goal waits)) = unchanged actors dice
after_first setup built dice actors a (Some (Harvest cell timer waits)) = unchanged actors dice
after_first setup built dice actors a (Some (Deliver home timer waits)) = unchanged actors dice
after_first setup built dice actors a None = unchanged actors dice

-- The same of the actor of an id.
abbrev pub fought_by_id : Setup → Grid Bool → Place → List Actor → Option Actor → Fought
fought_by_id setup built dice actors (Some a) =
    after_first setup built dice actors a (slice_get a.body.acts 0)
fought_by_id setup built dice actors None = unchanged actors dice
