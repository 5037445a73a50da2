-- The text of a world: it tells every field.
use Rattle.std.specs.Prelude.{ℕ, ◌+◌, ◌/◌, ◌%◌, ◌==◌, Bool, true, false, if◌then◌else◌}
use Rattle.std.specs.Prelude.{List, [], ◌∷◌, ◌++◌, Option, Some, None, codes}
use Rattle.std.specs.List.{flat_map}
use Rattle.std.specs.Fmt.{decimal}
use Rattle.world_units.specs.declared.cell.CPos.{CPos}
use Rattle.activities.specs.declared.activity.Activity.{Activity}
use Rattle.activities.specs.declared.activity.Activity.TheVariants.{Move, Attack, Harvest, Deliver}
use Rattle.game_model.specs.declared.actor.Actor.{Actor}
use Rattle.game_model.specs.declared.actor.Body.{Body}
use Rattle.game_model.specs.declared.actor.Leg.{Leg}
use Rattle.game_model.specs.declared.builds.Build.{Build}
use Rattle.game_model.specs.declared.world.Head.{Head}
use Rattle.game_model.specs.declared.world.World.{World}
use Rattle.game_model.specs.Grid.{Grid}
use Rattle.game_model.specs.World.{head_of}

-- The first line: turns so far, seed, random words drawn, the next id and the pace.
unfoldable pub turns_line : Head → List ℕ
turns_line head =
    codes "world tick " ++ decimal head.tick ++ codes " seed " ++ decimal head.seed
    ++ codes " drawn " ++ decimal head.drawn ++ codes " next " ++ decimal head.next_id
    ++ codes " pace " ++ decimal head.pace ++ codes "\n"

-- A number after a space.
abbrev pub spaced_number : ℕ → List ℕ
spaced_number number = codes " " ++ decimal number

-- A departure flag after a space.
abbrev pub spaced_flag : Bool → List ℕ
spaced_flag true = codes " 1"
spaced_flag false = codes " 0"

-- The cash of each client, by rising number.
unfoldable pub cash_line : List ℕ → List ℕ
cash_line cash = codes "cash" ++ flat_map spaced_number cash ++ codes "\n"

-- Whether each client has departed, by rising number.
unfoldable pub gone_line : List Bool → List ℕ
gone_line gone = codes "gone" ++ flat_map spaced_flag gone ++ codes "\n"

-- The lines of all of a world but its actors and its ore.
abbrev pub head_text : Head → List ℕ
head_text head = turns_line head ++ cash_line head.cash ++ gone_line head.gone

-- A leg: its direction and the units gone.
abbrev pub leg_text : Option Leg → List ℕ
leg_text None = codes "none"
leg_text (Some leg) = decimal leg.dir ++ codes ":" ++ decimal leg.progress

-- What an actor is and whose.
unfoldable pub named_text : Actor → List ℕ
named_text a =
    codes "actor " ++ decimal a.id ++ codes " kind " ++ decimal a.kind
    ++ codes " owner " ++ decimal a.body.owner

-- Where it stands, and the word before its leg.
unfoldable pub place_text : (cell : CPos) → (facing : ℕ) → List ℕ
place_text cell facing =
    codes " cell " ++ decimal cell.x ++ codes "," ++ decimal cell.y
    ++ codes " facing " ++ decimal facing ++ codes " leg "

-- Its other numbers.
unfoldable pub counts_text : Body → List ℕ
counts_text body =
    codes " health " ++ decimal body.health ++ codes " load " ++ decimal body.load
    ++ codes " reload " ++ decimal body.reload ++ codes "\n"

-- The first line of an actor: all but what it does and builds.
abbrev pub actor_line : Actor → List ℕ
actor_line a =
    named_text a ++ place_text a.cell a.body.facing ++ leg_text a.body.leg ++ counts_text a.body

-- The word of an activity and its cell.
unfoldable pub at_cell_text : (word : List ℕ) → CPos → List ℕ
at_cell_text word cell =
    codes "act " ++ word ++ codes " " ++ decimal cell.x ++ codes "," ++ decimal cell.y

-- The turns so far of the load or unload at work.
abbrev pub timer_text : ℕ → List ℕ
timer_text timer = codes " timer " ++ decimal timer

-- The end of the line of an activity.
unfoldable pub waits_text : ℕ → List ℕ
waits_text waits = codes " waits " ++ decimal waits ++ codes "\n"

-- The line of an activity.
abbrev pub activity_line : Activity → List ℕ
activity_line (Move goal waits) = at_cell_text (codes "move") goal ++ waits_text waits
activity_line (Attack target waits) =
    (codes "act attack " ++ decimal target) ++ waits_text waits
activity_line (Harvest cell timer waits) =
    at_cell_text (codes "harvest") cell ++ timer_text timer ++ waits_text waits
activity_line (Deliver home timer waits) =
    at_cell_text (codes "deliver") home ++ timer_text timer ++ waits_text waits

-- The line of a build: its kind, and the turns left.
unfoldable pub build_line : Build → List ℕ
build_line build =
    codes "build kind " ++ decimal build.kind ++ codes " left " ++ decimal build.left
    ++ codes "\n"

-- The lines of an actor: its own, one for each activity, the one at work first, and one for each
-- build, the one at work first.
abbrev pub actor_text : Actor → List ℕ
actor_text a =
    actor_line a ++ flat_map activity_line a.body.acts ++ flat_map build_line a.body.builds

-- The line of a cell with ore.
unfoldable pub ore_line : (column row bales : ℕ) → List ℕ
ore_line column row bales =
    codes "ore " ++ decimal column ++ codes "," ++ decimal row ++ codes " " ++ decimal bales
    ++ codes "\n"

-- The line of the cell at a place of a map of this width, if the cell has ore.
abbrev pub ore_at : (width place bales : ℕ) → List ℕ
ore_at width place bales =
    if bales == 0 then [] else ore_line (place % width) (place / width) bales

-- The lines of the cells with ore among these, row by row, of which the first has the given place.
abbrev pub ore_from : (width place : ℕ) → List ℕ → List ℕ
ore_from width place [] = []
ore_from width place (bales ∷ rest) = ore_at width place bales ++ ore_from width (place + 1) rest

abbrev pub ore_text : Grid ℕ → List ℕ
ore_text ore = ore_from ore.width 0 ore.cells

-- The last line.
unfoldable pub world_end : List ℕ
world_end = codes "end world\n"

-- The text of a world with this head, these actors and this ore.
abbrev pub text_with : Head → List Actor → Grid ℕ → List ℕ
text_with head actors ore =
    head_text head ++ (flat_map actor_text actors ++ (ore_text ore ++ world_end))

-- The text of a world.
unfoldable pub world_text : World → List ℕ
world_text w = text_with (head_of w) w.actors w.ore
