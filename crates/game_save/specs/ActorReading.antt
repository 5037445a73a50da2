-- An actor read from the bytes of a save, field by field: each value that a valid world has not is
-- refused at its field.
use Rattle.std.specs.Prelude.{ℕ, ◌+◌, ◌==◌, nat_lt, max, Bool, ◌&&◌, ◌||◌}
use Rattle.std.specs.Prelude.{if◌then◌else◌, List, [], ◌∷◌, Option, Some, None, is_some}
use Rattle.std.specs.Prelude.{Result, Ok, Err}
use Rattle.std.specs.Option.{IsSomeAnd}
use Rattle.base.specs.Steps.{◌>>=◌}
use Rattle.world_units.specs.declared.angle.TheConstants.{FULL_TURN}
use Rattle.world_units.specs.declared.direction.TheConstants.{DIRECTIONS}
use Rattle.world_units.specs.declared.cell.CPos.{CPos}
use Rattle.world_units.specs.Directions.{leg_length_of}
use Rattle.activities.specs.declared.activity.Activity.{Activity}
use Rattle.activities.specs.declared.activity.Activity.TheVariants.{Move, Attack, Harvest, Deliver}
use Rattle.activities.specs.declared.queue.TheConstants.{MAX_ACTIVITIES}
use Rattle.rule_traits.specs.declared.kind.Kind.{Kind}
use Rattle.rule_traits.specs.Rules.{kind_at, hp_of, moves}
use Rattle.game_model.specs.declared.actor.Actor.{Actor}
use Rattle.game_model.specs.declared.actor.Body.{Body}
use Rattle.game_model.specs.declared.actor.Leg.{Leg}
use Rattle.game_model.specs.declared.builds.Build.{Build}
use Rattle.game_model.specs.declared.limits.TheConstants.{MAX_BUILDS, MAX_WAITS, NEUTRAL}
use Rattle.game_model.specs.declared.map.Map.{Map}
use Rattle.game_model.specs.Setup.{Setup}
use Rattle.game_model.specs.Kinds.{capacity_in, load_delay_in, unload_delay_in, reload_in}
use Rattle.game_model.specs.Kinds.{duration_in, gathers, is_unit}
use Rattle.game_model.specs.ValidWorld.{IsUnderWay}
use Rattle.game_model.specs.World.{is_occupied}
use Rattle.game_save.specs.declared.save_fault.SaveFault.{SaveFault}
use Rattle.game_save.specs.declared.save_fault.SaveFault.TheVariants.{BadWorld}
use Rattle.game_save.specs.Fields.{Left, SaveRead, place_in, field_in, range_in, each_after}

-- The flags that a leg of an actor of the kind may have, from 0 on: 1 stands for a leg, which only
-- a kind that moves has.
abbrev pub leg_flags : Kind → ℕ
leg_flags kind = if moves kind then 2 else 1

-- The direction of a leg and the units gone.
unfoldable pub way_in : Left → SaveRead (Option Leg)
way_in left = do
  dir ← range_in 1 0 DIRECTIONS left
  gone ← range_in 4 0 (leg_length_of dir.0) dir.1
  Ok (Some (record { dir = dir.0; progress = gone.0 }), gone.1)

-- A leg, or none.
unfoldable pub leg_in : Kind → Left → SaveRead (Option Leg)
leg_in kind left = do
  flag ← range_in 1 0 (leg_flags kind) left
  if flag.0 == 0 then Ok (None, flag.1) else way_in flag.1

-- A cell of the map.
unfoldable pub cell_in : Map → Left → SaveRead CPos
cell_in map left = do
  x ← range_in 1 0 map.width left
  y ← range_in 1 0 map.height x.1
  Ok (record { x = x.0; y = y.0 }, y.1)

-- The steps in a row that an activity has waited.
abbrev pub waits_in : Left → SaveRead ℕ
waits_in left = range_in 1 0 MAX_WAITS left

-- The activities after their tags. A bale that takes less than a turn takes one.
unfoldable pub move_in : Map → Left → SaveRead Activity
move_in map left = do
  goal ← cell_in map left
  waits ← waits_in goal.1
  Ok (Move goal.0 waits.0, waits.1)

unfoldable pub attack_in : Left → SaveRead Activity
attack_in left = do
  target ← field_in 4 left
  waits ← waits_in target.1
  Ok (Attack target.0 waits.0, waits.1)

unfoldable pub harvest_in : Map → (delay : ℕ) → Left → SaveRead Activity
harvest_in map delay left = do
  cell ← cell_in map left
  timer ← range_in 2 0 (max 1 delay) cell.1
  waits ← waits_in timer.1
  Ok (Harvest cell.0 timer.0 waits.0, waits.1)

unfoldable pub deliver_in : Map → (delay : ℕ) → Left → SaveRead Activity
deliver_in map delay left = do
  home ← cell_in map left
  timer ← range_in 2 0 (max 1 delay) home.1
  waits ← waits_in timer.1
  Ok (Deliver home.0 timer.0 waits.0, waits.1)

-- The activity with this tag: none but those that an actor of the kind can have.
unfoldable pub tagged_in : Map → Kind → (fault : SaveFault) → (tag : ℕ) → Left → SaveRead Activity
tagged_in map kind fault tag left =
    if (tag == 1) && moves kind then move_in map left
    else (if (tag == 2) && is_some kind.armament then attack_in left
    else (if (tag == 3) && gathers kind then harvest_in map (load_delay_in kind.harvester) left
    else (if (tag == 4) && gathers kind
    then deliver_in map (unload_delay_in kind.harvester) left
    else Err fault)))

-- An activity, its tag first. A tag that the kind can't have is refused.
unfoldable pub activity_in : Map → Kind → Left → SaveRead Activity
activity_in map kind left = do
  tag ← field_in 1 left
  tagged_in map kind (BadWorld (place_in left)) tag.0 tag.1

abbrev pub next_act : Map → Kind → List Activity → Left → SaveRead Activity
next_act map kind held left = activity_in map kind left

-- The activities of an actor: how many, and each.
unfoldable pub acts_in : Map → Kind → Left → SaveRead (List Activity)
acts_in map kind left = do
  count ← range_in 1 0 (MAX_ACTIVITIES + 1) left
  each_after (next_act map kind) [] count.0 count.1

-- The unit that a number stands for.
abbrev pub known_unit : (fault : SaveFault) → Option Kind → Result Kind SaveFault
known_unit fault None = Err fault
known_unit fault (Some kind) = if is_unit kind then Ok kind else Err fault

-- A build: a unit, and at most all of its turns.
unfoldable pub build_in : List Kind → Left → SaveRead Build
build_in rules left = do
  number ← field_in 2 left
  product ← known_unit (BadWorld (place_in left)) (kind_at rules number.0)
  rest ← range_in 2 0 (duration_in product.buildable + 1) number.1
  Ok (record { kind = number.0; left = rest.0 }, rest.1)

-- The build is of a unit, with at most all of its turns left.
abbrev pub IsProductOf : List Kind → Build → Type 0
IsProductOf rules build = IsSomeAnd (kind_at rules build.kind) (IsUnderWay build.left)

abbrev pub next_build : List Kind → List Build → Left → SaveRead Build
next_build rules held left = build_in rules left

-- The numbers of builds that an actor of the kind may have, from 0 on: a kind without Production
-- has none.
abbrev pub build_counts : Kind → ℕ
build_counts kind = if is_some kind.production then MAX_BUILDS + 1 else 1

-- The builds of an actor: how many, and each.
unfoldable pub builds_in : List Kind → Kind → Left → SaveRead (List Build)
builds_in rules kind left = do
  count ← range_in 1 0 (build_counts kind) left
  each_after (next_build rules) [] count.0 count.1

-- The body of an actor of the kind, whose owner and facing are read.
unfoldable pub body_in : Setup → Kind → (owner facing : ℕ) → Left → SaveRead Body
body_in setup kind owner facing left = do
  leg ← leg_in kind left
  health ← range_in 4 1 (hp_of kind + 1) leg.1
  load ← range_in 2 0 (capacity_in kind.harvester + 1) health.1
  reload ← range_in 2 0 (reload_in kind.armament + 1) load.1
  acts ← acts_in setup.map kind reload.1
  builds ← builds_in setup.rules kind acts.1
  Ok (
    record {
      owner = owner;
      facing = facing;
      leg = leg.0;
      health = health.0;
      load = load.0;
      reload = reload.0;
      acts = acts.0;
      builds = builds.0;
    },
    builds.1,
  )

-- One of so many clients, or nobody.
abbrev pub is_owner : (clients owner : ℕ) → Bool
is_owner clients owner = nat_lt owner clients || (owner == NEUTRAL)

unfoldable pub owner_in : (clients : ℕ) → Left → SaveRead ℕ
owner_in clients left = do
  owner ← field_in 1 left
  if is_owner clients owner.0 then Ok owner else Err (BadWorld (place_in left))

-- A cell of the map that none of these actors has. A cell that one has is refused at its row.
unfoldable pub free_cell_in : Map → List Actor → Left → SaveRead CPos
free_cell_in map held left = do
  x ← range_in 1 0 map.width left
  y ← range_in 1 0 map.height x.1
  if is_occupied held (record { x = x.0; y = y.0 }) then Err (BadWorld (place_in x.1))
      else Ok (record { x = x.0; y = y.0 }, y.1)

-- What follows the kind: owner, cell, facing and the rest of the body.
unfoldable pub placed_in :
    Setup → (clients : ℕ) → Kind → List Actor → Left → SaveRead (CPos × Body)
placed_in setup clients kind held left = do
  owner ← owner_in clients left
  cell ← free_cell_in setup.map held owner.1
  facing ← range_in 2 0 FULL_TURN cell.1
  body ← body_in setup kind owner.0 facing.0 facing.1
  Ok ((cell.0, body.0), body.1)

-- The kind that a number stands for.
abbrev pub known_kind : (fault : SaveFault) → Option Kind → Result Kind SaveFault
known_kind fault None = Err fault
known_kind fault (Some kind) = Ok kind

-- The least id of an actor after these: their ids rise.
abbrev pub id_from : (least : ℕ) → List Actor → ℕ
id_from least [] = least
id_from least (a ∷ actors) = id_from (a.id + 1) actors

-- An actor after these, with a greater id, below the next one.
unfoldable pub actor_in : Setup → (clients next_id : ℕ) → List Actor → Left → SaveRead Actor
actor_in setup clients next_id held left = do
  id ← range_in 4 (id_from 1 held) next_id left
  number ← field_in 2 id.1
  kind ← known_kind (BadWorld (place_in id.1)) (kind_at setup.rules number.0)
  placed ← placed_in setup clients kind held number.1
  Ok (
    record {
      id = id.0;
      kind = number.0;
      cell = placed.0.0;
      body = placed.0.1;
    },
    placed.1,
  )
