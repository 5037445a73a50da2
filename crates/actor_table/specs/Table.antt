-- A table of actors: the size of the map, and the actors by rising id.
use Rattle.std.specs.Prelude.{◌≡◌, ◌≢◌, ℕ, ◌<◌, ◌≤◌, Bool, List, length, Option, Some, slice_get}
use Rattle.std.specs.List.{All, AllPairs}
use Rattle.world_units.specs.declared.cell.CPos.{CPos}
use Rattle.game_model.specs.declared.actor.Actor.{Actor}
use Rattle.game_model.specs.declared.limits.TheConstants.{MAX_ACTORS}
use Rattle.game_model.specs.Grid.{Grid, IsOn, place_of}
use Rattle.actor_table.specs.ActorList.{holder_of, CellsDiffer}
use Rattle.actor_table.specs.Idle.{AreIdle}
use Rattle.actor_table.specs.Kinds.{ListsActors}
use Rattle.actor_table.specs.declared.listed.Listed.{Listed}

pub record Table : Type 0 where
  pub width : ℕ
  pub height : ℕ
  pub actors : List Actor

-- What holds of the actors of every table: they stand on the map, ids rise, and no two have one
-- cell.
pub record IsTable (t : Table) : Type 0 where
  pub on_map : All (λ (a : Actor). IsOn t.width t.height a.cell) t.actors
  pub rise : AllPairs (λ (a b : Actor). a.id < b.id) t.actors
  pub apart : AllPairs (λ (a b : Actor). a.cell ≢ b.cell) t.actors
  pub count : length t.actors ≤ MAX_ACTORS

-- The cells have the id of the actor that holds each of them.
pub record IsIndexed (cells : Grid (Option ℕ)) (actors : List Actor) : Type 0 where
  pub on_map : All (λ (a : Actor). IsOn cells.width cells.height a.cell) actors
  pub cells_differ : CellsDiffer actors
  pub held : (p : CPos) → IsOn cells.width cells.height p
      → slice_get cells.cells (place_of cells.width p) ≡ Some (holder_of actors p)

-- The cells, the entries by owner and kind and the marks of the idle tell of these actors.
pub record IsTied (cells : Grid (Option ℕ)) (entries : List Listed) (idle : List Bool)
    (actors : List Actor) : Type 0 where
  pub indexed : IsIndexed cells actors
  pub listed : ListsActors entries actors
  pub marked : AreIdle idle actors
