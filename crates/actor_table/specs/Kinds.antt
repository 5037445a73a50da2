-- Actors listed by owner and kind.
use Rattle.std.specs.Prelude.{◌≡◌, ◌≢◌, ℕ, ◌+◌, ◌*◌, ◌<◌, ◌≤◌, ◌==◌, ◌&&◌, nat_lt, not, Bool}
use Rattle.std.specs.Prelude.{List, [], ◌∷◌, map, filter, length, Option, Some, None, if◌then◌else◌}
use Rattle.std.specs.List.{All}
use Rattle.std.specs.List.Sorted.{IsNonDecreasingBy}
use Rattle.game_model.specs.declared.actor.Actor.{Actor}
use Rattle.game_model.specs.declared.limits.TheConstants.{MAX_ACTORS}
use Rattle.game_model.specs.World.{ids_of}
use Rattle.actor_table.specs.declared.listed.Listed.{Listed}

-- The actor is one of this owner and this kind.
abbrev pub is_of : (owner kind : ℕ) → Actor → Bool
is_of owner kind a = (a.body.owner == owner) && (a.kind == kind)

-- The owner and the kind of an actor.
abbrev pub owner_and_kind_of : Actor → ℕ × ℕ
owner_and_kind_of a = (a.body.owner, a.kind)

-- The ids of the actors of an owner and a kind, in order.
abbrev pub ids_of_kind : List Actor → (owner kind : ℕ) → List ℕ
ids_of_kind actors owner kind = ids_of (filter (is_of owner kind) actors)

-- An actor as the table lists it.
abbrev pub listed_as : Actor → Listed
listed_as a = record { owner = a.body.owner; kind = a.kind; id = a.id }

-- The actors of an owner and a kind, in order, as the table lists them.
abbrev pub listed_of : List Actor → (owner kind : ℕ) → List Listed
listed_of actors owner kind = map listed_as (filter (is_of owner kind) actors)

-- The least number above another one; without one the least of all.
abbrev pub next_number : Option ℕ → ℕ
next_number None = 0
next_number (Some n) = n + 1

-- The owner has an actor of this kind, the least from a number on. Without such a kind it has none
-- from this number on.
abbrev pub IsNextKind : List Actor → (owner from : ℕ) → Option ℕ → Type 0
IsNextKind actors owner from (Some kind) =
    (from ≤ kind) × (ids_of_kind actors owner kind ≢ [])
    × ((k : ℕ) → from ≤ k → k < kind → ids_of_kind actors owner k ≡ [])
IsNextKind actors owner from None = (k : ℕ) → from ≤ k → ids_of_kind actors owner k ≡ []

-- The entry is one of this owner and this kind.
abbrev pub is_listed : (owner kind : ℕ) → Listed → Bool
is_listed owner kind e = (e.owner == owner) && (e.kind == kind)

abbrev pub listed_id : Listed → ℕ
listed_id e = e.id

-- The ids of the entries of an owner and a kind, in order.
abbrev pub ids_listed : List Listed → (owner kind : ℕ) → List ℕ
ids_listed entries owner kind = map listed_id (filter (is_listed owner kind) entries)

-- The same of the entries.
abbrev pub IsNextListed : List Listed → (owner from : ℕ) → Option ℕ → Type 0
IsNextListed entries owner from (Some kind) =
    (from ≤ kind) × (ids_listed entries owner kind ≢ [])
    × ((k : ℕ) → from ≤ k → k < kind → ids_listed entries owner k ≡ [])
IsNextListed entries owner from None = (k : ℕ) → from ≤ k → ids_listed entries owner k ≡ []

-- Entries are sorted by owner, then by kind, then by id.
abbrev pub rank_of : Listed → ℕ
rank_of e = (e.owner * 65536 + e.kind) * 4294967296 + e.id

-- Rising ids with one more.
abbrev pub id_inserted : ℕ → List ℕ → List ℕ
id_inserted id [] = id ∷ []
id_inserted id (n ∷ ids) = if nat_lt n id then n ∷ id_inserted id ids else id ∷ n ∷ ids

-- The list of an owner and a kind has one id more, and the other lists stay.
abbrev pub GainsId : (old new : List Listed) → (owner kind id : ℕ) → Type 0
GainsId old new owner kind id =
    (o k : ℕ) → ids_listed new o k
    ≡ (if (owner == o) && (kind == k) then id_inserted id (ids_listed old o k)
    else ids_listed old o k)

-- The ids without one.
abbrev pub ids_without : ℕ → List ℕ → List ℕ
ids_without id ids = filter (λ n. not (n == id)) ids

-- An id goes from the lists of one owner to the list of another owner and a kind. Where both are
-- the same, all stays.
abbrev pub MovesId : (old new : List Listed) → (from to kind id : ℕ) → Type 0
MovesId old new from to kind id =
    (o k : ℕ) → ids_listed new o k
    ≡ (if from == to then ids_listed old o k
    else (if (to == o) && (kind == k) then id_inserted id (ids_without id (ids_listed old o k))
    else ids_without id (ids_listed old o k)))

-- What the fields of an entry hold.
pub record IsEntry (e : Listed) : Type 0 where
  pub kind : e.kind < 65536
  pub id : e.id < 4294967296

-- Sorted entries, with room for `MAX_ACTORS`.
pub record IsSortedIndex (room : ℕ) (entries : List Listed) : Type 0 where
  pub sorted : IsNonDecreasingBy rank_of entries
  pub fit : All IsEntry entries
  pub limit : length entries ≤ MAX_ACTORS
  pub enough : MAX_ACTORS ≤ room

-- The entries list these actors.
pub record ListsActors (entries : List Listed) (actors : List Actor) : Type 0 where
  pub count : length entries ≤ length actors
  pub ids : (owner kind : ℕ) → ids_listed entries owner kind ≡ ids_of_kind actors owner kind
