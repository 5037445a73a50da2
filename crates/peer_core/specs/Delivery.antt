-- What a delivery to a peer answers and keeps, and what each answer says of what was kept before
-- it.
use Rattle.std.specs.Prelude.{◌≡◌, ◌≢◌, ◌⊎◌, ℕ, ◌<◌, ◌==◌, ◌&&◌, ◌||◌, nat_lt, not}
use Rattle.std.specs.Prelude.{Bool, true, if◌then◌else◌, List, Option, Some, None}
use Rattle.std.specs.Option.{option_or}
use Rattle.game_orders.specs.declared.entry.Entry.{Entry}
use Rattle.game_orders.specs.declared.entry.Entry.TheVariants.{Leave}
use Rattle.game_orders.specs.declared.limits.TheConstants.{MAX_FRAMES}
use Rattle.game_orders.specs.Entry.{is_play, same_entry}
use Rattle.peer_core.specs.declared.arrived.Arrived.{Arrived}
use Rattle.peer_core.specs.declared.delivered.Delivered.{Delivered}
use Rattle.peer_core.specs.declared.delivered.Delivered.TheVariants.{Kept, Repeat, Conflict, Past}
use Rattle.peer_core.specs.declared.delivered.Delivered.TheVariants.{Beyond}
use Rattle.peer_core.specs.Arrived.{kept_at, left_before, kept_after, with_arrived}

-- No match has the frame: only a departure can stand directly after the last frame.
abbrev pub is_beyond : ℕ → Entry → Bool
is_beyond n entry = nat_lt MAX_FRAMES n || ((n == MAX_FRAMES) && is_play entry)

-- A play stands at a frame of a match, a departure at most directly after the last one.
abbrev pub is_in_match : Arrived → Bool
is_in_match a = not (is_beyond a.frame a.entry)

-- The kept frame that an entry contradicts: that of an earlier departure, or where the entry is a
-- departure that of the first later entry.
abbrev pub past_of : List Arrived → ℕ → ℕ → Entry → Option ℕ
past_of arrived c n entry =
    option_or (left_before arrived c n) (if is_play entry then None else kept_after arrived c n)

-- The answer to a delivery of an entry, by what is kept at its place and by the frame that it
-- contradicts.
abbrev pub against : Option Entry → Option ℕ → Entry → Delivered
against (Some kept) past entry = if same_entry entry kept then Repeat else Conflict kept
against None (Some at) entry = Past at
against None None entry = Kept

-- The answer to a delivery of an entry of client c at frame n: the first applicable case decides.
abbrev pub delivery_of : List Arrived → ℕ → ℕ → Entry → Delivered
delivery_of arrived c n entry =
    if is_beyond n entry then Beyond
    else against (kept_at arrived c n) (past_of arrived c n entry) entry

-- What has arrived after a delivery with this answer: only `Kept` changes it.
abbrev pub after_delivery : Delivered → Arrived → List Arrived → List Arrived
after_delivery Kept a arrived = with_arrived a arrived
after_delivery Repeat a arrived = arrived
after_delivery (Conflict kept) a arrived = arrived
after_delivery (Past at) a arrived = arrived
after_delivery Beyond a arrived = arrived

-- What has arrived after a delivery of an entry of client c at frame n.
abbrev pub arrived_after : List Arrived → ℕ → ℕ → Entry → List Arrived
arrived_after arrived c n entry =
    after_delivery (delivery_of arrived c n entry)
    (record { client = c; frame = n; entry = entry }) arrived

-- A match has the frame, or it is the one after the last, where only a departure can stand.
abbrev pub IsInMatch : ℕ → Entry → Type 0
IsInMatch n e = (n < MAX_FRAMES) ⊎ ((n ≡ MAX_FRAMES) × (e ≡ Leave))

-- No match has the frame.
abbrev pub IsOutside : ℕ → Entry → Type 0
IsOutside n e = (MAX_FRAMES < n) ⊎ ((n ≡ MAX_FRAMES) × (is_play e ≡ true))

-- No departure of client c is kept before frame n.
abbrev pub StaysUntil : List Arrived → ℕ → ℕ → Type 0
StaysUntil arrived c n = (m : ℕ) → m < n → kept_at arrived c m ≢ Some Leave

-- A departure of client c is kept at frame m, before frame n.
abbrev pub HasLeftAt : List Arrived → ℕ → ℕ → ℕ → Type 0
HasLeftAt arrived c n m = (m < n) × (kept_at arrived c m ≡ Some Leave)

-- Nothing of client c is kept after frame n.
abbrev pub EndsBy : List Arrived → ℕ → ℕ → Type 0
EndsBy arrived c n = (m : ℕ) → n < m → kept_at arrived c m ≡ None

-- Frame m is the first after frame n at which something of client c is kept.
abbrev pub IsNextKept : List Arrived → ℕ → ℕ → ℕ → Type 0
IsNextKept arrived c n m =
    (n < m) × (kept_at arrived c m ≢ None)
    × ((k : ℕ) → n < k → k < m → kept_at arrived c k ≡ None)

-- Before a delivery of e of client c at frame n that answers so: nothing was kept there, c had
-- not left before n, and where e is a departure nothing of c was kept after it; or e was kept
-- there; or another entry was; or c had left at m before n, or e is a departure and m is the
-- first frame after it at which something of c was kept; or no match has n.
abbrev pub MeansDelivery : List Arrived → ℕ → ℕ → Entry → Delivered → Type 0
MeansDelivery arrived c n e Kept =
    IsInMatch n e × (kept_at arrived c n ≡ None) × StaysUntil arrived c n
    × (e ≡ Leave → EndsBy arrived c n)
MeansDelivery arrived c n e Repeat = kept_at arrived c n ≡ Some e
MeansDelivery arrived c n e (Conflict kept) = (kept_at arrived c n ≡ Some kept) × (kept ≢ e)
MeansDelivery arrived c n e (Past m) =
    (kept_at arrived c n ≡ None)
    × (HasLeftAt arrived c n m ⊎ ((e ≡ Leave) × IsNextKept arrived c n m))
MeansDelivery arrived c n e Beyond = IsOutside n e

-- After a delivery of an entry of client c at frame n each entry that was kept stays. The entry is
-- kept where the answer is `Kept`; with any other answer nothing changes. For every other client or
-- frame nothing changes.
pub record KeepsEntries (olds news : List Arrived) (c n : ℕ) (entry : Entry) : Type 0 where
  pub stays : (d m : ℕ) (was : Entry) → kept_at olds d m ≡ Some was → kept_at news d m ≡ Some was
  pub kept : delivery_of olds c n entry ≡ Kept → kept_at news c n ≡ Some entry
  pub unchanged : delivery_of olds c n entry ≢ Kept → news ≡ olds
  pub others : (d m : ℕ) → (d ≢ c) ⊎ (m ≢ n) → kept_at news d m ≡ kept_at olds d m
