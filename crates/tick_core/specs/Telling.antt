-- What a hasher is told after a step or an order.
use Rattle.std.specs.Prelude.{◌≡◌, ℕ, ◌<◌, ◌⊎◌, true, List, [], ◌∷◌, length, IfSome, Option, Some, None, map, slice_set}
use Rattle.world_units.specs.declared.cell.CPos.{CPos}
use Rattle.activities.specs.declared.activity.Activity.{Activity}
use Rattle.activities.specs.declared.activity.Activity.TheVariants.{Move, Attack, Harvest, Deliver}
use Rattle.game_model.specs.declared.actor.Actor.{Actor}
use Rattle.game_model.specs.declared.limits.TheConstants.{MAX_ACTORS}
use Rattle.game_model.specs.Grid.{Grid, place_of}
use Rattle.game_model.specs.World.{actor_of}
use Rattle.game_tick.specs.Nearest.{ore_at}
use Rattle.sync_hash.specs.declared.actor_number.ActorNumber.{ActorNumber}
use Rattle.sync_hash.specs.Kept.{Kept, IsKeptOf, actor_number, cell_number, has_id, mixed_more, numbered, ore_cells, with_number}
use Rattle.tick_core.specs.Touched.{KeptBut}

-- The ids, and this one, if there is one, before them.
abbrev pub with_some : Option ℕ → List ℕ → List ℕ
with_some None ids = ids
with_some (Some id) ids = id ∷ ids

-- The actor that the first activity may hit.
abbrev pub target_in : List Activity → Option ℕ
target_in [] = None
target_in (Move goal waits ∷ later) = None
target_in (Attack target waits ∷ later) = Some target
target_in (Harvest cell timer waits ∷ later) = None
target_in (Deliver home timer waits ∷ later) = None

abbrev pub target_of : Option Actor → Option ℕ
target_of None = None
target_of (Some a) = target_in a.body.acts

-- The cell whose ore the first activity may load.
abbrev pub cell_in : List Activity → Option CPos
cell_in [] = None
cell_in (Move goal waits ∷ later) = None
cell_in (Attack target waits ∷ later) = None
cell_in (Harvest cell timer waits ∷ later) = Some cell
cell_in (Deliver home timer waits ∷ later) = None

abbrev pub cell_of : Option Actor → Option CPos
cell_of None = None
cell_of (Some a) = cell_in a.body.acts

-- What is kept after the telling of an actor, if there is one.
abbrev pub told_if : Kept → Option Actor → Kept
told_if kept None = kept
told_if kept (Some a) =
    record kept {
      actors = with_number kept.actors a.id (actor_number a);
      mixed = mixed_more kept.mixed 1;
    }

abbrev pub told_of : Kept → List Actor → Option ℕ → Kept
told_of kept actors None = kept
told_of kept actors (Some id) = told_if kept (actor_of actors id)

-- There is room for the number of the actor of this id.
abbrev pub HasPlaceFor : List ActorNumber → List Actor → Option ℕ → Type 0
HasPlaceFor kept actors None = Unit {0}
HasPlaceFor kept actors (Some id) =
    IfSome (actor_of actors id) (λ (a : Actor). (has_id kept a.id ≡ true) ⊎ (length kept < MAX_ACTORS))

-- What is kept after the telling of the ore of a cell, if there is one.
abbrev pub told_ore : Kept → Grid ℕ → Option CPos → Kept
told_ore kept ore None = kept
told_ore kept ore (Some p) =
    record kept {
      cells = slice_set kept.cells (place_of kept.width p) (cell_number p (ore_at ore p));
      mixed = mixed_more kept.mixed (ore_cells (ore_at ore p ∷ []));
    }

-- What is kept, if anything is, has the numbers of these actors and of this ore.
abbrev pub IsKeptIf : Option Kept → List Actor → Grid ℕ → Type 0
IsKeptIf None actors ore = Unit {0}
IsKeptIf (Some kept) actors ore = IsKeptOf kept actors ore

-- It has the numbers of these actors, but of those whose id is one of these.
abbrev pub IsKeptButIf : List ℕ → Option Kept → List Actor → Type 0
IsKeptButIf ids None actors = Unit {0}
IsKeptButIf ids (Some kept) actors = KeptBut ids kept.actors actors

-- What is kept, after the telling of actors: all these have their numbers, and the cells theirs.
pub record IsTold (old new : Kept) (actors : List Actor) : Type 0 where
  pub numbers : new.actors ≡ map numbered actors
  pub cells : new.cells ≡ old.cells
  pub width : new.width ≡ old.width
  pub height : new.height ≡ old.height

abbrev pub IsToldIf : (old new : Option Kept) → List Actor → Type 0
IsToldIf None None actors = Unit {0}
IsToldIf None (Some new) actors = ⊥
IsToldIf (Some old) None actors = ⊥
IsToldIf (Some old) (Some new) actors = IsTold old new actors

-- What is kept, if anything is, after the telling of the ore of a cell, if there is one.
abbrev pub told_ore_if : Option Kept → Grid ℕ → Option CPos → Option Kept
told_ore_if None ore cell = None
told_ore_if (Some kept) ore cell = Some (told_ore kept ore cell)

-- What is kept has the size of the ore.
abbrev pub IsSizedIf : Option Kept → Grid ℕ → Type 0
IsSizedIf None ore = Unit {0}
IsSizedIf (Some kept) ore = (kept.width ≡ ore.width) × (kept.height ≡ ore.height)
