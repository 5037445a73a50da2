-- What a hasher keeps: a number for each actor and for each cell.
use Rattle.std.specs.Prelude.{◌≡◌, ℕ, ◌+◌, ◌-◌, ◌*◌, ◌%◌, ◌^◌, ◌==◌, ◌≤◌, nat_lt, min, Bool}
use Rattle.std.specs.Prelude.{false, not, if◌then◌else◌, List, [], ◌∷◌, fold, length, map, Option, Some, None, slice_get}
use Rattle.std.specs.List.{filter, sum_by, list_any, prefix_len}
use Rattle.world_units.specs.declared.cell.CPos.{CPos}
use Rattle.game_model.specs.declared.actor.Actor.{Actor}
use Rattle.game_model.specs.declared.world.Head.{Head}
use Rattle.game_model.specs.declared.world.World.{World}
use Rattle.game_model.specs.Grid.{Grid}
use Rattle.sync_hash.specs.declared.actor_number.ActorNumber.{ActorNumber}
use Rattle.sync_hash.specs.Fnv.{fnv_of}
use Rattle.sync_hash.specs.HashedBytes.{actor_bytes, cell_at, header_bytes, header_bytes_1}
use Rattle.sync_hash.specs.HashedBytes.{ore_bytes}

-- The numbers of the actors by rising id, one number for each cell of a map of this size, row by
-- row, and how many actors and cells were hashed so far.
pub record Kept : Type 0 where
  pub width : ℕ
  pub height : ℕ
  pub actors : List ActorNumber
  pub cells : List ℕ
  pub mixed : ℕ

-- The number of an actor.
abbrev pub actor_number : Actor → ℕ
actor_number a = fnv_of (actor_bytes a)

-- The number of a cell: 0 without ore.
abbrev pub cell_number : CPos → ℕ → ℕ
cell_number p ore = if ore == 0 then 0 else fnv_of (ore_bytes p ore)

-- The numbers of these cells, of which the first has the given place.
abbrev pub cell_numbers : (width place : ℕ) → List ℕ → List ℕ
cell_numbers width place [] = []
cell_numbers width place (ore ∷ rest) =
    cell_number (cell_at width place) ore ∷ cell_numbers width (place + 1) rest

-- An actor of this id is there.
abbrev pub has_id : List ActorNumber → ℕ → Bool
has_id actors id = list_any (λ (a : ActorNumber). a.id == id) actors

-- The numbers with this one for the id: in place of the one that is there, or before the first
-- greater id.
abbrev pub with_number : List ActorNumber → (id number : ℕ) → List ActorNumber
with_number [] id number = record { id = id; number = number } ∷ []
with_number (a ∷ rest) id number =
    if nat_lt a.id id then a ∷ with_number rest id number
    else if a.id == id then record { id = id; number = number } ∷ rest
    else (record { id = id; number = number } ∷ a ∷ rest)

-- The numbers without that of the id.
abbrev pub without_number : List ActorNumber → ℕ → List ActorNumber
without_number actors id = filter (λ (a : ActorNumber). not (a.id == id)) actors

-- The numbers of these actors, set one after the other.
abbrev pub with_numbers : List ActorNumber → List Actor → List ActorNumber
with_numbers numbers actors =
    fold (λ kept (a : Actor). with_number kept a.id (actor_number a)) numbers actors

abbrev pub numbers_of : List Actor → List ActorNumber
numbers_of actors = with_numbers [] actors

-- The number of an actor under its id.
abbrev pub numbered : Actor → ActorNumber
numbered a = record { id = a.id; number = actor_number a }

-- The count after so many more were hashed: it stays at the greatest 64-bit number.
abbrev pub mixed_more : ℕ → ℕ → ℕ
mixed_more mixed more = min (mixed + more) (2 ^ 64 - 1)

-- How many of these cells have ore.
abbrev pub ore_cells : List ℕ → ℕ
ore_cells [] = 0
ore_cells (ore ∷ rest) = if ore == 0 then ore_cells rest else (1 + ore_cells rest)

-- The sum of the numbers of a world's actors and cells.
abbrev pub parts_number : World → ℕ
parts_number w =
    sum_by actor_number w.actors + sum_by (λ n. n) (cell_numbers w.ore.width 0 w.ore.cells)

-- What is kept of a world on a map of this size.
abbrev pub kept_of : (width height : ℕ) → World → Kept
kept_of width height w =
    record {
      width = width;
      height = height;
      actors = numbers_of w.actors;
      cells = cell_numbers width 0 w.ore.cells;
      mixed = mixed_more 0 (length w.actors + ore_cells w.ore.cells);
    }

-- The sum of the numbers of the actors.
abbrev pub numbers_sum : List ActorNumber → ℕ
numbers_sum actors = sum_by (λ (a : ActorNumber). a.number) actors

-- The sum of all numbers.
abbrev pub sum_of : Kept → ℕ
sum_of kept = numbers_sum kept.actors + sum_by (λ n. n) kept.cells

-- The hash of a world with this head and what is kept.
unfoldable pub hash_with : Kept → Head → ℕ
hash_with kept head = (fnv_of (header_bytes head (length kept.actors)) + sum_of kept) % 2 ^ 64

-- The same in the first version.
unfoldable pub hash_with_1 : Kept → Head → ℕ
hash_with_1 kept head = (fnv_of (header_bytes_1 head (length kept.actors)) + sum_of kept) % 2 ^ 64

-- Ids that rise, the first of them at least the given one.
abbrev pub RiseFrom : ℕ → List ActorNumber → Type 0
RiseFrom least [] = Unit
RiseFrom least (a ∷ rest) = (least ≤ a.id) × RiseFrom (a.id + 1) rest

-- The number of an id, or 0 where it isn't there.
abbrev pub number_in : List ActorNumber → ℕ → ℕ
number_in [] id = 0
number_in (a ∷ rest) id = if a.id == id then a.number else number_in rest id

-- How many ids are below this one, of ids that rise.
abbrev pub place_for : List ActorNumber → ℕ → ℕ
place_for actors id = prefix_len (λ (a : ActorNumber). nat_lt a.id id) actors

-- The number is that of the id.
abbrev pub is_of : ℕ → Option ActorNumber → Bool
is_of id None = false
is_of id (Some a) = a.id == id

-- The number at a place is that of the id.
abbrev pub is_at : List ActorNumber → (place id : ℕ) → Bool
is_at actors place id = is_of id (slice_get actors place)

-- The numbers are those of these actors, whose ids rise, and of this ore.
pub record IsKeptOf (kept : Kept) (actors : List Actor) (ore : Grid ℕ) : Type 0 where
  pub width : kept.width ≡ ore.width
  pub height : kept.height ≡ ore.height
  pub numbers : kept.actors ≡ map numbered actors
  pub cells : kept.cells ≡ cell_numbers ore.width 0 ore.cells

-- What holds of the parts of a hasher: a number for each cell, and the sum of all numbers.
pub record IsKept (width height : ℕ) (actors : List ActorNumber) (cells : List ℕ) (sum : ℕ) : Type 0 where
  pub cell_each : length cells ≡ width * height
  pub summed : sum ≡ (numbers_sum actors + sum_by (λ n. n) cells) % 2 ^ 64
