-- A world read from the bytes of a save after so many frames, field by field: each value that a
-- valid world has not, with the fields before it, is refused at its field.
use Rattle.std.specs.Prelude.{◌≤◌, ℕ, zero, suc, ◌+◌, ◌*◌, ◌^◌, ◌==◌, Bool, not}
use Rattle.std.specs.Prelude.{List, [], ◌∷◌, ◌++◌, length, Ok}
use Rattle.std.specs.List.{All}
use Rattle.base.specs.Steps.{◌>>=◌}
use Rattle.game_orders.specs.declared.limits.TheConstants.{MAX_CLIENTS}
use Rattle.game_model.specs.declared.limits.TheConstants.{MAX_ACTORS, MAX_CASH, MAX_DRAWS}
use Rattle.game_model.specs.declared.limits.TheConstants.{MAX_ORE, MAX_PACE}
use Rattle.game_model.specs.declared.actor.Actor.{Actor}
use Rattle.game_model.specs.declared.world.Head.{Head}
use Rattle.game_model.specs.declared.world.World.{World}
use Rattle.game_model.specs.declared.map.Map.{Map}
use Rattle.game_model.specs.Grid.{Grid}
use Rattle.game_model.specs.Setup.{Setup}
use Rattle.game_model.specs.ValidWorld.{IsPace}
use Rattle.game_model.specs.World.{world_with, AreClients}
use Rattle.game_save.specs.declared.clients.Clients.{Clients}
use Rattle.game_save.specs.Fields.{Left, SaveRead, field_in, range_in, each_after}
use Rattle.game_save.specs.ActorReading.{actor_in}

-- No clients yet.
abbrev pub no_clients : Clients
no_clients = record { cash = []; gone = [] }

-- The clients, and one more after them.
abbrev pub with_client : Clients → (cash : ℕ) → (gone : Bool) → Clients
with_client held cash gone =
    record { cash = held.cash ++ cash ∷ []; gone = held.gone ++ gone ∷ [] }

-- The cash of a client, and a flag, 1 where it has departed.
abbrev pub cash_in : Left → SaveRead ℕ
cash_in left = range_in 4 0 (MAX_CASH + 1) left

unfoldable pub gone_in : Left → SaveRead Bool
gone_in left = do
  flag ← range_in 1 0 2 left
  Ok (not (flag.0 == 0), flag.1)

-- A client after those that are held.
unfoldable pub client_in : Clients → Left → SaveRead Clients
client_in held left = do
  cash ← cash_in left
  gone ← gone_in cash.1
  Ok (with_client held cash.0 gone.0, gone.1)

-- So many more clients after those that are held.
unfoldable pub clients_after : Clients → (more : ℕ) → Left → SaveRead Clients
clients_after held zero left = Ok (held, left)
clients_after held (suc more) left =
    client_in held left >>= λ next. clients_after next.0 more next.1

-- The clients: how many, and each.
unfoldable pub clients_in : Left → SaveRead Clients
clients_in left = do
  count ← range_in 1 1 (MAX_CLIENTS + 1) left
  clients_after no_clients count.0 count.1

-- The head of a world after so many frames.
unfoldable pub head_in : (frames : ℕ) → Left → SaveRead Head
head_in frames left = do
  tick ← range_in 4 frames (MAX_PACE * frames + 1) left
  seed ← field_in 4 tick.1
  drawn ← range_in 8 0 (MAX_DRAWS * frames + 1) seed.1
  next_id ← range_in 4 1 (2 ^ 32) drawn.1
  pace ← range_in 1 1 (MAX_PACE + 1) next_id.1
  clients ← clients_in pace.1
  Ok (
    record {
      tick = tick.0;
      seed = seed.0;
      drawn = drawn.0;
      next_id = next_id.0;
      pace = pace.0;
      cash = clients.0.cash;
      gone = clients.0.gone;
    },
    clients.1,
  )

-- The actors of a world with this head: how many, and each.
unfoldable pub actors_in : Setup → Head → Left → SaveRead (List Actor)
actors_in setup head left = do
  count ← range_in 4 0 (MAX_ACTORS + 1) left
  each_after (actor_in setup (length head.cash) head.next_id) [] count.0 count.1

-- The ore of a cell.
abbrev pub next_ore : List ℕ → Left → SaveRead ℕ
next_ore held left = range_in 1 0 (MAX_ORE + 1) left

-- The ore of each cell of a map of this size, row by row.
unfoldable pub ore_in : (width height : ℕ) → Left → SaveRead (Grid ℕ)
ore_in width height left = do
  cells ← each_after next_ore [] (width * height) left
  Ok (record { width = width; height = height; cells = cells.0 }, cells.1)

-- The size of the ore, which is to be that of the map.
unfoldable pub size_in : Map → Left → SaveRead ℕ
size_in map left = do
  width ← range_in 1 map.width (map.width + 1) left
  range_in 1 map.height (map.height + 1) width.1

-- The world: its size, its head, its actors, and the ore of each cell, row by row.
unfoldable pub world_in : Setup → (frames : ℕ) → Left → SaveRead World
world_in setup frames left = do
  size ← size_in setup.map left
  head ← head_in frames size.1
  actors ← actors_in setup head.0 head.1
  ore ← ore_in setup.map.width setup.map.height actors.1
  Ok (world_with head.0 actors.0 ore.0, ore.1)

-- What a valid world after so many frames says of its head.
pub record IsHeadAfter (frames : ℕ) (head : Head) : Type 0 where
  pub least_tick : frames ≤ head.tick
  pub most_tick : head.tick ≤ MAX_PACE * frames
  pub drawn : head.drawn ≤ MAX_DRAWS * frames
  pub next : 1 ≤ head.next_id
  pub pace : IsPace head.pace
  pub clients : AreClients head.cash head.gone
  pub cash : All (λ cash. cash ≤ MAX_CASH) head.cash
