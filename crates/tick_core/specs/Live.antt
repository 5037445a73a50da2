-- A world that is being ticked, as the code holds it: its head, its actors in a table, its ore, and
-- the numbers of which its hash is made.
use Rattle.std.specs.Prelude.{◌≡◌, ℕ, true, List, [], ◌∷◌, IfSome, Option, Some, None}
use Rattle.std.specs.List.{All}
use Rattle.actor_table.specs.Table.{Table}
use Rattle.game_model.specs.declared.actor.Actor.{Actor}
use Rattle.game_model.specs.declared.world.World.{World}
use Rattle.game_model.specs.Setup.{Setup}
use Rattle.game_model.specs.World.{HasClients, actor_of, is_alive}
use Rattle.sync_hash.specs.Kept.{Kept, IsKeptOf}

-- What a match stands on, and a world.
pub record Standing : Type 0 where
  pub setup : Setup
  pub world : World

-- The table and the hasher are those of the world, which has its clients.
pub record IsLive (setup : Setup) (w : World) (table : Table) (kept : Kept) : Type 0 where
  pub width : table.width ≡ setup.map.width
  pub height : table.height ≡ setup.map.height
  pub numbers : IsKeptOf kept w.actors w.ore
  pub clients : HasClients w

-- The actor has health left.
abbrev pub Lives : Actor → Type 0
Lives a = is_alive a ≡ true

-- All actors have health left.
abbrev pub AllLive : List Actor → Type 0
AllLive actors = All (λ (a : Actor). is_alive a ≡ true) actors

-- The actor of the id, if there is one, has health left.
abbrev pub LivesOf : List Actor → Option ℕ → Type 0
LivesOf actors None = Unit {0}
LivesOf actors (Some id) = IfSome (actor_of actors id) Lives

-- So has each of these ids.
abbrev pub AreLive : List ℕ → List Actor → Type 0
AreLive [] actors = Unit {0}
AreLive (id ∷ ids) actors = IfSome (actor_of actors id) Lives × AreLive ids actors
