-- How what reached a peer is stored, client by client. What it means is said of the whole list of
-- what has arrived (Arrived.antt).
use Rattle.std.specs.Prelude.{◌≢◌, ℕ, ◌+◌, ◌<◌, ◌≤◌, ◌==◌, nat_lt, nat_le, if◌then◌else◌}
use Rattle.std.specs.Prelude.{List, [], ◌∷◌, ◌++◌, map, Option, Some, None, slice_index_or}
use Rattle.std.specs.List.{AllByRecursion, find}
use Rattle.std.specs.Option.{option_map, option_or}
use Rattle.game_orders.specs.declared.order.Order.{Order}
use Rattle.game_orders.specs.declared.entry.Entry.{Entry}
use Rattle.game_orders.specs.declared.entry.Entry.TheVariants.{Play, Leave}
use Rattle.game_orders.specs.Entry.{is_play}
use Rattle.peer_core.specs.declared.arrived.Arrived.{Arrived}
use Rattle.peer_core.specs.declared.delivered.Delivered.{Delivered}
use Rattle.peer_core.specs.declared.delivered.Delivered.TheVariants.{Kept, Repeat, Conflict, Past}
use Rattle.peer_core.specs.declared.delivered.Delivered.TheVariants.{Beyond}
use Rattle.peer_core.specs.Arrived.{least_of}
use Rattle.peer_core.specs.Delivery.{is_beyond, against}

-- A play that is kept, with its frame.
pub record KeptPlay : Type 0 where
  pub frame : ℕ
  pub orders : List Order

-- The plays of a column, which stand without a gap, from frame k on.
abbrev pub column_plays : ℕ → List (List Order) → List KeptPlay
column_plays k [] = []
column_plays k (orders ∷ column) =
    record { frame = k; orders = orders } ∷ column_plays (k + 1) column

-- A play that stands after a gap, with its frame as key.
abbrev pub early_play : ℕ × List Order → KeptPlay
early_play e = record { frame = e.0; orders = e.1 }

-- The plays of a column and those after its gap.
abbrev pub stored_plays : List (List Order) → List (ℕ × List Order) → List KeptPlay
stored_plays column early = column_plays 0 column ++ map early_play early

-- The keys rise, each above n.
abbrev pub IsAbove : ℕ → List (ℕ × List Order) → Type 0
IsAbove n [] = Unit
IsAbove n (e ∷ early) = (n < e.0) × IsAbove e.0 early

-- The keys rise, the first at n or above it.
abbrev pub IsFrom : ℕ → List (ℕ × List Order) → Type 0
IsFrom n [] = Unit
IsFrom n (e ∷ early) = (n ≤ e.0) × IsAbove e.0 early

-- The first key isn't n.
abbrev pub IsElsewhere : ℕ → List (ℕ × List Order) → Type 0
IsElsewhere n [] = Unit
IsElsewhere n (e ∷ early) = e.0 ≢ n

-- What reached the peer of one client.
pub record Entries : Type 0 where
  pub plays : List KeptPlay
  pub left : Option ℕ

abbrev pub no_entries : Entries
no_entries = record { plays = []; left = None }

-- The plays stand by rising frame.
abbrev pub IsByFrame : List KeptPlay → Type 0
IsByFrame [] = Unit
IsByFrame (p ∷ ps) = AllByRecursion (λ q. p.frame < q.frame) ps × IsByFrame ps

-- A play of client c, as it arrived.
abbrev pub play_arrived : ℕ → KeptPlay → Arrived
play_arrived c p = record { client = c; frame = p.frame; entry = Play p.orders }

-- The departure of client c, if there is one, as it arrived.
abbrev pub left_arrived : ℕ → Option ℕ → List Arrived
left_arrived c None = []
left_arrived c (Some at) = record { client = c; frame = at; entry = Leave } ∷ []

-- What has arrived of client c.
abbrev pub own_arrived : ℕ → Entries → List Arrived
own_arrived c own = map (play_arrived c) own.plays ++ left_arrived c own.left

-- What has arrived of the clients from client c on.
abbrev pub all_arrived : ℕ → List Entries → List Arrived
all_arrived c [] = []
all_arrived c (own ∷ rest) = own_arrived c own ++ all_arrived (c + 1) rest

-- The orders of the play at frame n.
abbrev pub play_at : List KeptPlay → ℕ → Option (List Order)
play_at plays n = option_map (λ p. p.orders) (find (λ p. p.frame == n) plays)

-- The entry at frame n: a play there, or the departure there.
abbrev pub entry_of : Option (List Order) → Option ℕ → ℕ → Option Entry
entry_of (Some orders) left n = Some (Play orders)
entry_of None (Some at) n = if at == n then Some Leave else None
entry_of None None n = None

-- The frame of the departure where it is before frame n, and where it is after frame n.
abbrev pub if_before : Option ℕ → ℕ → Option ℕ
if_before None n = None
if_before (Some at) n = if nat_lt at n then Some at else None

abbrev pub if_after : Option ℕ → ℕ → Option ℕ
if_after None n = None
if_after (Some at) n = if nat_lt n at then Some at else None

-- The frame of the first play after frame n.
abbrev pub play_after : List KeptPlay → ℕ → Option ℕ
play_after plays n = option_map (λ p. p.frame) (find (λ p. nat_lt n p.frame) plays)

-- What the client has for frame n: its play there, or its departure at n or before it.
abbrev pub own_has : Option (List Order) → Option ℕ → ℕ → Option Entry
own_has (Some orders) left n = Some (Play orders)
own_has None (Some at) n = if nat_le at n then Some Leave else None
own_has None None n = None

-- The kept frame that an entry at frame n contradicts.
abbrev pub own_past : Entries → ℕ → Entry → Option ℕ
own_past own n entry =
    option_or (if_before own.left n)
    (if is_play entry then None else least_of (play_after own.plays n) (if_after own.left n))

-- The answer to a delivery of an entry at frame n.
abbrev pub own_delivery : Entries → ℕ → Entry → Delivered
own_delivery own n entry =
    if is_beyond n entry then Beyond
    else against (entry_of (play_at own.plays n) own.left n) (own_past own n entry) entry

-- The plays with one more, at its place.
abbrev pub with_play : KeptPlay → List KeptPlay → List KeptPlay
with_play k [] = k ∷ []
with_play k (p ∷ plays) = if nat_lt k.frame p.frame then k ∷ p ∷ plays else p ∷ with_play k plays

-- With one more entry.
abbrev pub with_entry : Entries → ℕ → Entry → Entries
with_entry own n (Play orders) =
    record own { plays = with_play (record { frame = n; orders = orders }) own.plays }
with_entry own n Leave = record own { left = Some n }

-- Only `Kept` changes anything.
abbrev pub own_after : Delivered → Entries → ℕ → Entry → Entries
own_after Kept own n entry = with_entry own n entry
own_after Repeat own n entry = own
own_after (Conflict kept) own n entry = own
own_after (Past at) own n entry = own
own_after Beyond own n entry = own

-- What reached the peer of client c.
abbrev pub entries_of : List Entries → ℕ → Entries
entries_of all c = slice_index_or all c no_entries
