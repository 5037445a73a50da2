-- The step of an Attack.
use Rattle.std.specs.Prelude.{ℕ, ◌+◌, ◌-◌, ◌==◌, nat_le, if◌then◌else◌, Bool, List, Option, Some}
use Rattle.std.specs.Prelude.{None}
use Rattle.world_units.specs.Cells.{dist_sq_of, square}
use Rattle.twister.specs.Place.{Place, after_word}
use Rattle.twister.specs.Sequence.{draw_of}
use Rattle.activities.specs.declared.activity.Activity.TheVariants.{Attack}
use Rattle.rule_traits.specs.declared.kind.Kind.{Kind}
use Rattle.rule_traits.specs.Rules.{moves}
use Rattle.game_model.specs.declared.actor.Actor.{Actor}
use Rattle.game_model.specs.ActorChanges.{changed_at}
use Rattle.game_model.specs.Grid.{Grid}
use Rattle.game_model.specs.Setup.{Setup}
use Rattle.game_model.specs.Kinds.{reload_in, kind_of, range_in, damage_in, spread_in}
use Rattle.game_model.specs.World.{living_of}
use Rattle.game_tick.specs.Acts.{popped}
use Rattle.game_tick.specs.Moving.{gone_towards}

-- The actors after the step, and the place in the sequence of random words from which the next one
-- is drawn.
pub record Fought : Type 0 where
  pub actors : List Actor
  pub dice : Place

-- The actor after a hit, which leaves at least no health.
abbrev pub hit_by : (points : ℕ) → Actor → Actor
hit_by points a = record a { body = record a.body { health = a.body.health - points } }

-- The actor that has just fired.
abbrev pub reloading : Kind → Actor → Actor
reloading kind a = record a { body = record a.body { reload = reload_in kind.armament } }

-- What a shot takes away: the damage, and a draw of up to the spread more.
abbrev pub points_of : Kind → Place → ℕ
points_of kind dice =
    damage_in kind.armament + draw_of dice.seed dice.drawn (spread_in kind.armament + 1)

-- The target is within range.
abbrev pub is_in_range : Kind → Actor → Actor → Bool
is_in_range kind a target = nat_le (dist_sq_of a.cell target.cell) (square (range_in kind.armament))

-- The first applicable case decides: the target lives no more, and the activity ends; it is in
-- range, and the actor fires if it is loaded, else waits for that; the actor moves towards it; or,
-- where it can't move, the activity ends.
abbrev pub fought_with :
    Setup → Grid Bool → Place → List Actor → Actor → Kind → (waits : ℕ) → Option Actor → Fought
fought_with setup built dice actors a kind waits None =
    record { actors = changed_at actors a.id popped; dice = dice }
fought_with setup built dice actors a kind waits (Some target) =
    if is_in_range kind a target
    then (
    if a.body.reload == 0
    then record {
      actors =
          changed_at (changed_at actors target.id (hit_by (points_of kind dice))) a.id
          (reloading kind);
      dice = after_word dice;
    }
    else record { actors = actors; dice = dice }
    )
    else (
    if moves kind
    then record {
      actors = gone_towards setup built actors a target.cell waits (Attack target.id);
      dice = dice;
    }
    else record { actors = changed_at actors a.id popped; dice = dice }
    )

-- The step of an Attack on the actor of an id, after so many waits in a row.
unfoldable pub after_attack :
    Setup → Grid Bool → Place → List Actor → Actor → (target waits : ℕ) → Fought
after_attack setup built dice actors a target waits =
    fought_with setup built dice actors a (kind_of setup.rules a.kind) waits
    (living_of actors target)
