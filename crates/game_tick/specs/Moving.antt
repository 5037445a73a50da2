-- Legs, and steps towards a cell.
use Rattle.std.specs.Prelude.{ℕ, ◌+◌, ◌==◌, nat_lt, if◌then◌else◌, Bool, List, Option, Some, None}
use Rattle.world_units.specs.declared.cell.CPos.{CPos}
use Rattle.world_units.specs.Angles.{dir_angle_of}
use Rattle.world_units.specs.Cells.{same_cell}
use Rattle.world_units.specs.Directions.{leg_length_of, step_of}
use Rattle.world_units.specs.Turning.{turn_of}
use Rattle.activities.specs.declared.activity.Activity.{Activity}
use Rattle.activities.specs.declared.activity.Activity.TheVariants.{Move}
use Rattle.rule_traits.specs.declared.kind.Kind.{Kind}
use Rattle.game_model.specs.declared.actor.Actor.{Actor}
use Rattle.game_model.specs.declared.actor.Body.{Body}
use Rattle.game_model.specs.declared.actor.Leg.{Leg}
use Rattle.game_model.specs.declared.limits.TheConstants.{MAX_WAITS}
use Rattle.game_model.specs.ActorChanges.{changed_at, with_body}
use Rattle.game_model.specs.BestDirection.{best_dir_of}
use Rattle.game_model.specs.Grid.{Grid}
use Rattle.game_model.specs.Setup.{Setup}
use Rattle.game_model.specs.Walks.{land_of}
use Rattle.game_model.specs.World.{is_occupied}
use Rattle.game_model.specs.Kinds.{kind_of, speed_in, turning_in, costs_in}
use Rattle.game_tick.specs.declared.moving.Moving.{Moving}
use Rattle.game_tick.specs.declared.moving.Moving.TheVariants.{Going, GivenUp}
use Rattle.game_tick.specs.Acts.{popped, with_first}

-- The leg after a step of so many units. It ends where it has its whole length.
abbrev pub leg_after : (speed : ℕ) → Leg → Option Leg
leg_after speed leg =
    if nat_lt (leg.progress + speed) (leg_length_of leg.dir)
    then Some (record leg { progress = leg.progress + speed })
    else None

abbrev pub leg_step : (speed : ℕ) → Option Leg → Option Leg
leg_step speed (Some leg) = leg_after speed leg
leg_step speed None = None

-- The body after a step of its leg.
abbrev pub with_leg_step : Kind → Body → Body
with_leg_step kind body = record body { leg = leg_step (speed_in kind.mobile) body.leg }

-- The actors after the leg step of the one of an id.
abbrev pub after_leg : List Kind → List Actor → ℕ → List Actor
after_leg rules actors id =
    changed_at actors id
    (λ (a : Actor). record a { body = with_leg_step (kind_of rules a.kind) a.body })

-- The actors after a step towards a cell, and how the step ended.
pub record Moved : Type 0 where
  pub actors : List Actor
  pub answer : Moving

-- One more wait. At `MAX_WAITS` the actor gives up.
abbrev pub waiting_after : (waits : ℕ) → Moving
waiting_after waits = if nat_lt (waits + 1) MAX_WAITS then Going (waits + 1) else GivenUp

-- The actor that sets out for the next cell: it holds that cell from now on, and begins a leg with
-- its first step.
abbrev pub set_out : Kind → (d : ℕ) → CPos → Actor → Actor
set_out kind d next a =
    record a {
      cell = next;
      body =
          with_leg_step kind (record a.body { leg = Some (record { dir = d; progress = 0 }) });
    }

-- It faces the next cell: it waits where that is occupied, else it sets out.
abbrev pub moved_into : Kind → List Actor → (id waits d : ℕ) → Option CPos → Moved
moved_into kind actors id waits d None = record { actors = actors; answer = GivenUp }
moved_into kind actors id waits d (Some next) =
    if is_occupied actors next then record { actors = actors; answer = waiting_after waits }
    else record { actors = changed_at actors id (set_out kind d next); answer = Going 0 }

-- There is a best direction: it turns until it faces that way. Where there is none, it gives up.
abbrev pub moved_in : Kind → List Actor → Actor → (waits : ℕ) → Option ℕ → Moved
moved_in kind actors a waits None = record { actors = actors; answer = GivenUp }
moved_in kind actors a waits (Some d) =
    if a.body.facing == dir_angle_of d
    then moved_into kind actors a.id waits d (step_of a.cell d)
    else record {
      actors =
          with_body actors a.id (record a.body {
            facing = turn_of a.body.facing (dir_angle_of d) (turning_in kind.mobile);
          });
      answer = Going waits;
    }

-- A step of an actor towards a cell that isn't its own, after so many waits in a row, where
-- buildings stand on these cells.
unfoldable pub moved_towards :
    Setup → Grid Bool → List Actor → Actor → CPos → (waits : ℕ) → Moved
moved_towards setup built actors a goal waits =
    let kind = kind_of setup.rules a.kind in
    moved_in kind actors a waits
    (best_dir_of setup.map (land_of setup.map built (costs_in kind.mobile) goal) a.cell)

-- The same of the actor of an id.
abbrev pub moved_by_id : Setup → Grid Bool → List Actor → CPos → (waits : ℕ) → Option Actor → Moved
moved_by_id setup built actors goal waits (Some a) = moved_towards setup built actors a goal waits
moved_by_id setup built actors goal waits None = record { actors = actors; answer = GivenUp }

-- The actor goes on with its activity, which counts its waits, or drops it where it gave up.
abbrev pub gone_on : List Actor → (id : ℕ) → (ℕ → Activity) → Moving → List Actor
gone_on actors id activity (Going waits) = changed_at actors id (with_first (activity waits))
gone_on actors id activity GivenUp = changed_at actors id popped

-- The actors after a step of an activity that leads towards a cell.
abbrev pub gone_towards :
    Setup → Grid Bool → List Actor → Actor → CPos → (waits : ℕ) → (ℕ → Activity) → List Actor
gone_towards setup built actors a goal waits activity =
    let moved = moved_towards setup built actors a goal waits in
    gone_on moved.actors a.id activity moved.answer

-- The step of a Move: at its goal it ends, elsewhere it leads towards the goal.
unfoldable pub after_move :
    Setup → Grid Bool → List Actor → Actor → CPos → (waits : ℕ) → List Actor
after_move setup built actors a goal waits =
    if same_cell a.cell goal then changed_at actors a.id popped
    else gone_towards setup built actors a goal waits (Move goal)
