-- Where the unit of a finished build comes out.
use Rattle.std.specs.Prelude.{◌≡◌, ◌<◌, ◌==◌, ◌&&◌, ℕ, false, if◌then◌else◌, List, length, Option, Some, None}
use Rattle.world_units.specs.declared.cell.CPos.{CPos}
use Rattle.world_units.specs.declared.direction.TheConstants.{DIRECTIONS}
use Rattle.game_model.specs.declared.actor.Actor.{Actor}
use Rattle.game_model.specs.declared.limits.TheConstants.{MAX_ACTORS}
use Rattle.game_model.specs.Buildings.{neighbour_of}
use Rattle.game_model.specs.Grid.{IsOn}
use Rattle.game_model.specs.Setup.{Setup}
use Rattle.game_model.specs.World.{is_occupied}
use Rattle.game_model.specs.Kinds.{kind_of}
use Rattle.game_tick.specs.Building.{exit_of, has_room}
use Rattle.game_tick.specs.declared.limits.TheConstants.{LAST_ID}
use Rattle.production.specs.declared.exit.Exit.{Exit}

abbrev pub dir_of : Exit → ℕ
dir_of exit = exit.dir

-- The exit of a unit of a kind whose build has so many turns left: only where none is left and
-- there is room.
abbrev pub exit_after : Setup → List Actor → (next_id left kind : ℕ) → CPos → Option ℕ
exit_after setup actors next_id left kind from =
    if (left == 0) && has_room actors next_id
    then exit_of setup actors (kind_of setup.rules kind) from
    else None

-- The exit is a cell of the map beside the builder that nobody holds.
pub record IsExit (setup : Setup) (actors : List Actor) (from : CPos) (exit : Exit) : Type 0 where
  pub direction : exit.dir < DIRECTIONS
  pub beside :
      neighbour_of setup.map.width setup.map.height from exit.dir ≡ Some exit.cell
  pub on_map : IsOn setup.map.width setup.map.height exit.cell
  pub free : is_occupied actors exit.cell ≡ false

-- There is room for one more actor.
pub record IsRoom (actors : List Actor) (next_id : ℕ) : Type 0 where
  pub count : length actors < MAX_ACTORS
  pub id : next_id < LAST_ID
