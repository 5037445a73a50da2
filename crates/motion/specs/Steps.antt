-- What a step makes of the actors, where the actor is given by its id and the activity by its value.
use Rattle.std.specs.Prelude.{◌≡◌, ℕ, Bool, List, Option, Some, None}
use Rattle.world_units.specs.declared.cell.CPos.{CPos}
use Rattle.activities.specs.declared.activity.Activity.{Activity}
use Rattle.activities.specs.declared.activity.Activity.TheVariants.{Move, Attack, Harvest, Deliver}
use Rattle.game_model.specs.declared.actor.Actor.{Actor}
use Rattle.game_model.specs.Grid.{Grid}
use Rattle.game_model.specs.Setup.{Setup}
use Rattle.game_tick.specs.declared.moving.Moving.{Moving}
use Rattle.game_tick.specs.Moving.{Moved, after_move, gone_towards}
use Rattle.actor_table.specs.Table.{Table}

-- The table has the actors of a step towards a cell, and the call the answer of the step.
pub record IsMoved (old new : Table) (ended : Moving) (moved : Moved) : Type 0 where
  pub actors : new ≡ record old { actors = moved.actors }
  pub answer : ended ≡ moved.answer

-- How many steps in a row the actor of the activity has waited.
abbrev pub waits_of : Activity → ℕ
waits_of (Move goal waits) = waits
waits_of (Attack target waits) = waits
waits_of (Harvest cell timer waits) = waits
waits_of (Deliver home timer waits) = waits

-- The same activity after so many waits in a row.
abbrev pub with_waits : Activity → (waits : ℕ) → Activity
with_waits (Move goal other) waits = Move goal waits
with_waits (Attack target other) waits = Attack target waits
with_waits (Harvest cell timer other) waits = Harvest cell timer waits
with_waits (Deliver home timer other) waits = Deliver home timer waits

-- The actors after a step of an activity that leads the actor towards a cell. Nothing changes where
-- there is no actor.
abbrev pub gone_by_id :
    Setup → Grid Bool → List Actor → CPos → Activity → Option Actor → List Actor
gone_by_id setup built actors goal activity (Some a) =
    gone_towards setup built actors a goal (waits_of activity) (with_waits activity)
gone_by_id setup built actors goal activity None = actors

-- The actors after the step of a Move. Nothing changes where there is no actor.
abbrev pub after_move_by_id :
    Setup → Grid Bool → List Actor → CPos → (waits : ℕ) → Option Actor → List Actor
after_move_by_id setup built actors goal waits (Some a) =
    after_move setup built actors a goal waits
after_move_by_id setup built actors goal waits None = actors
