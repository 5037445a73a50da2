-- The bytes of a world that are hashed: a list of bytes for the header, for each actor, and for each
-- cell with ore.
use Rattle.std.specs.Prelude.{ℕ, ◌+◌, ◌/◌, ◌%◌, ◌==◌, Bool, if◌then◌else◌, List, [], ◌∷◌, ◌++◌}
use Rattle.std.specs.Prelude.{length, map, Option, Some, None}
use Rattle.std.specs.List.{zip, flat_map}
use Rattle.wire_bytes.specs.Field.{field_bytes}
use Rattle.world_units.specs.declared.cell.CPos.{CPos}
use Rattle.activities.specs.declared.activity.Activity.{Activity}
use Rattle.activities.specs.declared.activity.Activity.TheVariants.{Move, Attack, Harvest, Deliver}
use Rattle.game_model.specs.declared.actor.Actor.{Actor}
use Rattle.game_model.specs.declared.actor.Leg.{Leg}
use Rattle.game_model.specs.declared.builds.Build.{Build}
use Rattle.game_model.specs.declared.world.Head.{Head}
use Rattle.game_model.specs.declared.world.World.{World}
use Rattle.game_model.specs.World.{head_of}

-- A departure flag as a byte.
abbrev pub flag_byte : Bool → ℕ
flag_byte gone = if gone then 1 else 0

-- The bytes of one client: its cash, and whether it has departed.
abbrev pub client_bytes : ℕ × Bool → List ℕ
client_bytes (cash, gone) = field_bytes 4 cash ++ flag_byte gone ∷ []

-- The bytes of all clients, by rising number.
abbrev pub clients_bytes : Head → List ℕ
clients_bytes head = flat_map client_bytes (zip head.cash head.gone)

-- The bytes of a world's header: tick, seed, random words drawn, next id, these bytes for the pace,
-- the clients and the number of actors.
abbrev pub header_with : List ℕ → Head → ℕ → List ℕ
header_with pace head actors =
    field_bytes 4 head.tick ++ field_bytes 4 head.seed ++ field_bytes 8 head.drawn
    ++ field_bytes 4 head.next_id
    ++ pace
    ++ (length head.cash ∷ [])
    ++ clients_bytes head
    ++ field_bytes 4 actors

-- The header has the pace in one byte. In the first version of the hash it has no pace.
abbrev pub header_bytes : Head → ℕ → List ℕ
header_bytes head actors = header_with (head.pace ∷ []) head actors

abbrev pub header_bytes_1 : Head → ℕ → List ℕ
header_bytes_1 head actors = header_with [] head actors

-- The bytes of a cell: its column and its row.
abbrev pub cell_bytes : CPos → List ℕ
cell_bytes p = p.x ∷ p.y ∷ []

-- The bytes of a leg: 0 for none, otherwise 1, its direction and the units gone.
abbrev pub leg_bytes : Option Leg → List ℕ
leg_bytes None = 0 ∷ []
leg_bytes (Some leg) = (1 ∷ leg.dir ∷ []) ++ field_bytes 4 leg.progress

-- The bytes of an activity: its tag, and then its fields.
abbrev pub activity_bytes : Activity → List ℕ
activity_bytes (Move goal waits) = (1 ∷ []) ++ cell_bytes goal ++ waits ∷ []
activity_bytes (Attack target waits) = (2 ∷ []) ++ field_bytes 4 target ++ waits ∷ []
activity_bytes (Harvest cell timer waits) =
    (3 ∷ []) ++ cell_bytes cell ++ field_bytes 2 timer ++ waits ∷ []
activity_bytes (Deliver home timer waits) =
    (4 ∷ []) ++ cell_bytes home ++ field_bytes 2 timer ++ waits ∷ []

-- The bytes of a build: its kind, and the turns left.
abbrev pub build_bytes : Build → List ℕ
build_bytes build = field_bytes 2 build.kind ++ field_bytes 2 build.left

-- The bytes of the activities of an actor: how many, and each.
abbrev pub acts_bytes : List Activity → List ℕ
acts_bytes acts = (length acts ∷ []) ++ flat_map activity_bytes acts

-- The bytes of the builds of an actor: how many, and each.
abbrev pub builds_bytes : List Build → List ℕ
builds_bytes builds = (length builds ∷ []) ++ flat_map build_bytes builds

-- The bytes of an actor: id, kind, owner, cell, facing, leg, health, load, reload, activities and
-- builds.
unfoldable pub actor_bytes : Actor → List ℕ
actor_bytes a =
    field_bytes 4 a.id ++ field_bytes 2 a.kind ++ (a.body.owner ∷ []) ++ cell_bytes a.cell
    ++ field_bytes 2 a.body.facing
    ++ leg_bytes a.body.leg
    ++ field_bytes 4 a.body.health
    ++ field_bytes 2 a.body.load
    ++ field_bytes 2 a.body.reload
    ++ acts_bytes a.body.acts
    ++ builds_bytes a.body.builds

-- The bytes of a cell with ore.
abbrev pub ore_bytes : CPos → ℕ → List ℕ
ore_bytes p ore = cell_bytes p ++ ore ∷ []

-- The cell at a place in the list of all cells of a map of this width.
abbrev pub cell_at : (width place : ℕ) → CPos
cell_at width place = record { x = place % width; y = place / width }

-- The bytes of each cell with ore among these, of which the first has the given place.
abbrev pub ore_parts : (width place : ℕ) → List ℕ → List (List ℕ)
ore_parts width place [] = []
ore_parts width place (ore ∷ rest) =
    if ore == 0 then ore_parts width (place + 1) rest
    else (ore_bytes (cell_at width place) ore ∷ ore_parts width (place + 1) rest)

-- The byte lists of a world after its header.
abbrev pub parts_after_header : World → List (List ℕ)
parts_after_header w = map actor_bytes w.actors ++ ore_parts w.ore.width 0 w.ore.cells

-- The byte lists of a world.
abbrev pub parts_of : World → List (List ℕ)
parts_of w = header_bytes (head_of w) (length w.actors) ∷ parts_after_header w

-- The same with the header of the first version.
abbrev pub parts_of_1 : World → List (List ℕ)
parts_of_1 w = header_bytes_1 (head_of w) (length w.actors) ∷ parts_after_header w
