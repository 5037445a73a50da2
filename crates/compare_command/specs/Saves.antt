-- The differences of two saves.
use Rattle.std.specs.Prelude.{ℕ, ◌%◌, ◌/◌, min, max, List, [], ◌∷◌, ◌++◌, length, slice_get}
use Rattle.std.specs.Prelude.{Option, Some, None}
use Rattle.game_model.specs.declared.actor.Actor.{Actor}
use Rattle.game_model.specs.declared.actor.Body.{Body}
use Rattle.game_model.specs.declared.world.World.{World}
use Rattle.game_model.specs.Grid.{Grid}
use Rattle.game_model.specs.World.{actor_of, clients_of}
use Rattle.game_save.specs.declared.saved.Saved.{Saved}
use Rattle.compare_command.specs.declared.subject.Field.TheVariants as field
use Rattle.compare_command.specs.declared.subject.Subject.TheVariants.{Frames, Tick, Seed, Drawn}
use Rattle.compare_command.specs.declared.subject.Subject.TheVariants.{Next, Pace, Clients, Cash}
use Rattle.compare_command.specs.declared.subject.Subject.TheVariants.{Gone, Ore, Actor as OfActor}
use Rattle.compare_command.specs.Difference.{Difference, Numbers, Flags, Cells, Legs, Acts, Builds}
use Rattle.compare_command.specs.Difference.{OnlyFirst, OnlySecond, compared, compared_if}
use Rattle.compare_command.specs.Each.{each}

-- Those of the random words.
abbrev pub draw_differences : World → World → List Difference
draw_differences a b =
    compared Seed (Numbers a.seed b.seed) ++ compared Drawn (Numbers a.drawn b.drawn)

-- Those of the next id, the pace and the number of clients.
abbrev pub number_differences : World → World → List Difference
number_differences a b =
    compared Next (Numbers a.next_id b.next_id)
    ++ (compared Pace (Numbers a.pace b.pace)
    ++ compared Clients (Numbers (clients_of a) (clients_of b)))

-- Those of all but clients, actors and ore.
abbrev pub head_differences : Saved → Saved → List Difference
head_differences a b =
    compared Frames (Numbers a.frames b.frames)
    ++ (compared Tick (Numbers a.world.tick b.world.tick)
    ++ (draw_differences a.world b.world ++ number_differences a.world b.world))

-- Those of a client, if both have it.
abbrev pub client_differences : World → World → (client : ℕ) → List Difference
client_differences a b client =
    compared_if (Cash client) Numbers (slice_get a.cash client) (slice_get b.cash client)
    ++ compared_if (Gone client) Flags (slice_get a.gone client) (slice_get b.gone client)

-- Those of all clients that both have.
abbrev pub clients_differences : World → World → List Difference
clients_differences a b = each (client_differences a b) 0 (min (clients_of a) (clients_of b))

-- Those of the facing and the leg of the actor of an id.
abbrev pub place_differences : (id : ℕ) → Body → Body → List Difference
place_differences id p q =
    compared (OfActor id field.Facing) (Numbers p.facing q.facing)
    ++ compared (OfActor id field.Leg) (Legs p.leg q.leg)

-- Those of its health, load and reload.
abbrev pub count_differences : (id : ℕ) → Body → Body → List Difference
count_differences id p q =
    compared (OfActor id field.Health) (Numbers p.health q.health)
    ++ (compared (OfActor id field.Load) (Numbers p.load q.load)
    ++ compared (OfActor id field.Reload) (Numbers p.reload q.reload))

-- Those of what it is to do and to build.
abbrev pub plan_differences : (id : ℕ) → Body → Body → List Difference
plan_differences id p q =
    compared (OfActor id field.Acts) (Acts p.acts q.acts)
    ++ compared (OfActor id field.Builds) (Builds p.builds q.builds)

-- Those of an actor that both have.
abbrev pub field_differences : Actor → Actor → List Difference
field_differences p q =
    compared (OfActor p.id field.Kind) (Numbers p.kind q.kind)
    ++ (compared (OfActor p.id field.Owner) (Numbers p.body.owner q.body.owner)
    ++ (compared (OfActor p.id field.Cell) (Cells p.cell q.cell)
    ++ (place_differences p.id p.body q.body
    ++ (count_differences p.id p.body q.body ++ plan_differences p.id p.body q.body))))

-- Those of what the two have of an id.
abbrev pub beside : (id : ℕ) → Option Actor → Option Actor → List Difference
beside id None None = []
beside id (Some p) None = OnlyFirst id ∷ []
beside id None (Some q) = OnlySecond id ∷ []
beside id (Some p) (Some q) = field_differences p q

-- Those of an id.
abbrev pub id_differences : (actors others : List Actor) → (id : ℕ) → List Difference
id_differences actors others id = beside id (actor_of actors id) (actor_of others id)

-- Those of all ids, by rising id. The ids of a world are below its next one.
abbrev pub actors_differences : World → World → List Difference
actors_differences a b =
    each (id_differences a.actors b.actors) 0 (max a.next_id b.next_id)

-- That of the cell at a place of the lists of all cells, row by row, of maps of this width.
abbrev pub cell_of : (width : ℕ) → (cells others : List ℕ) → (place : ℕ) → List Difference
cell_of width cells others place =
    compared_if (Ore (place % width) (place / width)) Numbers
    (slice_get cells place) (slice_get others place)

-- Those of all cells, row by row.
abbrev pub ore_differences : (ore other : Grid ℕ) → List Difference
ore_differences ore other = each (cell_of ore.width ore.cells other.cells) 0 (length ore.cells)

-- Those of two saves over one map.
abbrev pub save_differences : Saved → Saved → List Difference
save_differences a b =
    head_differences a b
    ++ (clients_differences a.world b.world
    ++ (actors_differences a.world b.world ++ ore_differences a.world.ore b.world.ore))
