-- The actors read so far, and the cells that they have.
use Rattle.std.specs.Prelude.{◌≡◌, ◌≢◌, ◌<◌, ◌≤◌, ℕ, List, [], ◌∷◌, ◌++◌, Bool, false, Some}
use Rattle.std.specs.List.{All, AllPairs}
use Rattle.world_units.specs.declared.cell.CPos.{CPos}
use Rattle.world_units.specs.declared.angle.TheConstants.{FULL_TURN}
use Rattle.rule_traits.specs.declared.kind.Kind.{Kind}
use Rattle.game_model.specs.declared.actor.Actor.{Actor}
use Rattle.game_model.specs.declared.actor.Body.{Body}
use Rattle.game_model.specs.Grid.{Grid, IsOn, IsWhole, at_cell}
use Rattle.game_model.specs.Setup.{Setup}
use Rattle.game_model.specs.ValidMap.{IsOwner}
use Rattle.game_model.specs.ValidWorld.{IsBodyOf, IsHealthOf, IsValidActor}
use Rattle.game_model.specs.World.{is_occupied}
use Rattle.game_save.specs.ActorReading.{id_from}

-- Actors on a map of this size.
pub record Standing : Type 0 where
  pub width : ℕ
  pub height : ℕ
  pub actors : List Actor

abbrev pub no_crew : (width height : ℕ) → Standing
no_crew width height = record { width = width; height = height; actors = [] }

-- The actors, and one more after them.
abbrev pub with_actor : Standing → Actor → Standing
with_actor crew actor = record crew { actors = crew.actors ++ actor ∷ [] }

-- The flag of each cell of the map says whether one of these actors has it.
pub record AreMarked (actors : List Actor) (taken : Grid Bool) : Type 0 where
  pub whole : IsWhole taken
  pub marks :
      (cell : CPos) → IsOn taken.width taken.height cell →
      at_cell taken cell ≡ Some (is_occupied actors cell)

-- An actor of the kind may stand so, where these do: its owner is one of so many clients or nobody,
-- and no other has its cell.
pub record IsPlaced
    (setup : Setup) (clients : ℕ) (kind : Kind) (held : List Actor) (cell : CPos) (body : Body)
    : Type 0 where
  pub owner : IsOwner clients body.owner
  pub on_map : IsOn setup.map.width setup.map.height cell
  pub free : is_occupied held cell ≡ false
  pub facing : body.facing < FULL_TURN
  pub sound : IsBodyOf setup kind body
  pub health : IsHealthOf body.health kind

-- The actor may follow these: it is valid, its id is greater, and no other has its cell.
pub record MayJoin (setup : Setup) (clients next_id : ℕ) (held : List Actor) (a : Actor)
    : Type 0 where
  pub valid : IsValidActor setup clients next_id a
  pub rises : id_from 1 held ≤ a.id
  pub free : is_occupied held a.cell ≡ false

-- These actors are valid, their ids rise, and no two have one cell.
pub record AreJoined (setup : Setup) (clients next_id : ℕ) (held : List Actor) : Type 0 where
  pub valid : All (IsValidActor setup clients next_id) held
  pub rise : AllPairs (λ (a b : Actor). a.id < b.id) held
  pub apart : AllPairs (λ (a b : Actor). a.cell ≢ b.cell) held
  pub below : All (λ (a : Actor). a.id < id_from 1 held) held
