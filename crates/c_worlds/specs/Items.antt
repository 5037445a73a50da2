-- What actors are to do, as C reads it.
use Rattle.std.specs.Prelude.{ℕ, ◌+◌, List, ◌++◌, Option, None, Some, Result, Ok, Err, length, map}
use Rattle.world_units.specs.declared.cell.CPos.{CPos}
use Rattle.activities.specs.declared.activity.Activity.{Activity}
use Rattle.activities.specs.declared.activity.Activity.TheVariants.{Move, Attack, Harvest, Deliver}
use Rattle.game_model.specs.declared.actor.Actor.{Actor}
use Rattle.game_model.specs.declared.builds.Build.{Build}
use Rattle.game_model.specs.World.{actor_of}
use Rattle.tick_core.specs.Game.{GameState}
use Rattle.c_objects.specs.declared.code.TheConstants.{NONE}
use Rattle.c_worlds.specs.declared.items.CItem.{CItem}

-- What is done at a cell.
abbrev pub cell_item : (what : ℕ) → CPos → (turns waits : ℕ) → CItem
cell_item what cell turns waits =
    record { what = what; x = cell.x; y = cell.y; id = 0; turns = turns; waits = waits }

abbrev pub act_item : Activity → CItem
act_item (Move goal waits) = cell_item 1 goal 0 waits
act_item (Attack target waits) =
    record { what = 2; x = 0; y = 0; id = target; turns = 0; waits = waits }
act_item (Harvest cell timer waits) = cell_item 3 cell timer waits
act_item (Deliver home timer waits) = cell_item 4 home timer waits

abbrev pub build_item : Build → CItem
build_item build =
    record { what = 5; x = 0; y = 0; id = build.kind; turns = build.left; waits = 0 }

-- Its activities, the one at work first, and then its builds.
abbrev pub items_of : Actor → List CItem
items_of actor = map act_item actor.body.acts ++ map build_item actor.body.builds

abbrev pub item_count : Actor → ℕ
item_count actor = length actor.body.acts + length actor.body.builds

abbrev pub items_by : Option Actor → Result (List CItem) ℕ
items_by None = Err NONE
items_by (Some actor) = Ok (items_of actor)

-- What the actor with this id is to do.
abbrev pub items_told : (id : ℕ) → GameState → Result (List CItem) ℕ
items_told id game = items_by (actor_of game.world.actors id)
