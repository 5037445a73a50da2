-- The opening world of a match, its clients, and its actors.
use Rattle.std.specs.Prelude.{◌≡◌, ◌≤◌, ℕ, ◌+◌, ◌==◌, nat_lt, ◌&&◌, Bool, false, List, [], ◌∷◌, length}
use Rattle.std.specs.Prelude.{Option, Some, None, replicate, if◌then◌else◌}
use Rattle.std.specs.List.{find, list_any}
use Rattle.world_units.specs.declared.cell.CPos.{CPos}
use Rattle.world_units.specs.Cells.{same_cell}
use Rattle.game_orders.specs.declared.limits.TheConstants.{MAX_CLIENTS}
use Rattle.rule_traits.specs.declared.kind.Kind.{Kind}
use Rattle.rule_traits.specs.Rules.{kind_at, hp_of}
use Rattle.game_model.specs.declared.actor.Actor.{Actor}
use Rattle.game_model.specs.declared.actor.Body.{Body}
use Rattle.game_model.specs.declared.limits.TheConstants.{NEUTRAL, OPENING_PACE}
use Rattle.game_model.specs.declared.map.Start.{Start}
use Rattle.game_model.specs.declared.world.Head.{Head}
use Rattle.game_model.specs.declared.world.World.{World}
use Rattle.game_model.specs.Grid.{Grid}
use Rattle.game_model.specs.Setup.{Setup}

-- All of a world but its actors and its ore.
abbrev pub head_of : World → Head
head_of w =
    record {
      tick = w.tick;
      seed = w.seed;
      drawn = w.drawn;
      next_id = w.next_id;
      pace = w.pace;
      cash = w.cash;
      gone = w.gone;
    }

-- The world of a head with these actors and this ore.
abbrev pub world_with : Head → List Actor → Grid ℕ → World
world_with head actors ore =
    record {
      tick = head.tick;
      seed = head.seed;
      drawn = head.drawn;
      next_id = head.next_id;
      pace = head.pace;
      cash = head.cash;
      gone = head.gone;
      actors = actors;
      ore = ore;
    }

-- The health with which an actor of a kind begins.
abbrev pub full_health_of : Option Kind → ℕ
full_health_of (Some kind) = hp_of kind
full_health_of None = 1

-- What a new actor is: at full health, with nothing loaded, nothing to do and nothing to build.
abbrev pub new_body : (owner facing health : ℕ) → Body
new_body owner facing health =
    record {
      owner = owner;
      facing = facing;
      leg = None;
      health = health;
      load = 0;
      reload = 0;
      acts = [];
      builds = [];
    }

-- A new actor.
abbrev pub new_actor : List Kind → (id kind owner : ℕ) → CPos → (facing : ℕ) → Actor
new_actor rules id kind owner cell facing =
    record {
      id = id;
      kind = kind;
      cell = cell;
      body = new_body owner facing (full_health_of (kind_at rules kind));
    }

-- Who owns an actor of the map in a match of so many clients: nobody where the match has not this
-- client.
abbrev pub owner_in : (clients owner : ℕ) → ℕ
owner_in clients owner = if nat_lt owner clients then owner else NEUTRAL

-- The actors of a map in its order, with ids from the given one on.
abbrev pub opening_actors : List Kind → (clients id : ℕ) → List Start → List Actor
opening_actors rules clients id [] = []
opening_actors rules clients id (s ∷ starts) =
    new_actor rules id s.kind (owner_in clients s.owner) s.cell s.facing
    ∷ opening_actors rules clients (id + 1) starts

-- The opening world: nothing has happened, nobody has departed, each client has the map's cash, a
-- frame runs one turn, and the map's actors have the ids from 1 on.
unfoldable pub start_of : Setup → (seed clients : ℕ) → World
start_of setup seed clients =
    record {
      tick = 0;
      seed = seed;
      drawn = 0;
      next_id = 1 + length setup.map.starts;
      pace = OPENING_PACE;
      cash = replicate clients setup.map.cash;
      gone = replicate clients false;
      actors = opening_actors setup.rules clients 1 setup.map.starts;
      ore = setup.map.ore;
    }

-- The number of clients of a world.
abbrev pub clients_of : World → ℕ
clients_of w = length w.cash

-- A match has 1 to `MAX_CLIENTS` clients, with one cash and one departure flag for each of them.
pub record AreClients (cash : List ℕ) (gone : List Bool) : Type 0 where
  pub least : 1 ≤ length cash
  pub most : length cash ≤ MAX_CLIENTS
  pub flags : length gone ≡ length cash

abbrev pub HasClients : World → Type 0
HasClients w = AreClients w.cash w.gone

-- The actor of an id.
abbrev pub actor_of : List Actor → ℕ → Option Actor
actor_of actors id = find (λ (a : Actor). a.id == id) actors

-- The actor has health left.
abbrev pub is_alive : Actor → Bool
is_alive a = nat_lt 0 a.body.health

-- The living actor of an id.
abbrev pub living_of : List Actor → ℕ → Option Actor
living_of actors id = find (λ (a : Actor). (a.id == id) && is_alive a) actors

-- An actor of the list, living or not, has the cell.
abbrev pub is_occupied : List Actor → CPos → Bool
is_occupied actors p = list_any (λ (a : Actor). same_cell a.cell p) actors

-- The ids of the actors, in order.
abbrev pub ids_of : List Actor → List ℕ
ids_of [] = []
ids_of (a ∷ actors) = a.id ∷ ids_of actors
