-- What is sent to a client, and what the sending does.
use Rattle.std.specs.Prelude.{◌≡◌, ℕ, ◌+◌, ◌<◌, ◌≤◌, ◌==◌, if◌then◌else◌, Bool, true, false, List, []}
use Rattle.std.specs.Prelude.{◌∷◌, ◌++◌, length, slice_index_or, nat_lt, Option, Some, None}
use Rattle.std.specs.Prelude.{Result, Ok, Err}
use Rattle.base.specs.Cause.{Increased}
use Rattle.base.specs.Written.{Wrote, WrotePrefix}
use Rattle.game_io.specs.SinkState.{SinkState}
use Rattle.game_orders.specs.declared.order.Order.{Order}
use Rattle.game_orders.specs.declared.entry.Entry.{Entry as one_entry}
use Rattle.game_orders.specs.declared.entry.Entry.TheVariants.{Play, Leave}
use Rattle.frame_core.specs.Column.{Column}
use Rattle.frame_core.specs.Grows.{GrowsTo}
use Rattle.order_packets.specs.declared.down.Down.TheVariants as down
use Rattle.order_packets.specs.PacketBytes.{down_bytes}
use Rattle.frame_table.specs.declared.seen.Seen.{Seen}
use Rattle.frame_table.specs.declared.view.View.{View}
use Rattle.frame_table.specs.Part.{Part, part_of, OthersStay}
use Rattle.frame_table.specs.Calls.{TakesSo}
use Rattle.match_net.specs.declared.sender_end.SenderEnd.{SenderEnd}
use Rattle.match_net.specs.declared.sender_end.SenderEnd.TheVariants as sent

-- An entry of a client that stands at a frame.
pub record At : Type 0 where
  pub client : ℕ
  pub frame : ℕ
  pub entry : one_entry

-- Each entry as a packet, one after another.
abbrev pub entries_bytes : List At → List ℕ
entries_bytes [] = []
entries_bytes (at ∷ others) =
    down_bytes (down.Entry at.client at.frame at.entry) ++ entries_bytes others

-- Of some entries those of one client, in their order.
abbrev pub of_client : ℕ → List At → List (ℕ × one_entry)
of_client c [] = []
of_client c (at ∷ others) =
    if at.client == c then (at.frame, at.entry) ∷ of_client c others else of_client c others

-- The entries of a column from its first frame on, each with its frame: the plays, and then the
-- departure.
abbrev pub entries_from : ℕ → List (List Order) → Bool → List (ℕ × one_entry)
entries_from n (orders ∷ plays) left = (n, Play orders) ∷ entries_from (n + 1) plays left
entries_from n [] true = (n, Leave) ∷ []
entries_from n [] false = []

abbrev pub entries_of : Column → List (ℕ × one_entry)
entries_of column = entries_from 0 column.plays column.left

-- Of a client's column so much was sent: its first entries, in order and without a gap. This is
-- the beginning of what is known of the column.
pub record SentColumn (c : ℕ) (entries : List At) (known : Column) : Type 0 where
  pub column : Column
  pub is : of_client c entries ≡ entries_of column
  pub begins : GrowsTo column known

-- The same, where it is counted.
pub record SentSoFar (c : ℕ) (entries : List At) (known : Column) (count : Seen) : Type 0 where
  pub column : Column
  pub is : of_client c entries ≡ entries_of column
  pub begins : GrowsTo column known
  pub plays : length column.plays ≡ count.plays
  pub left : column.left ≡ count.left

abbrev pub nothing_sent : Seen
nothing_sent = record { plays = 0; left = false }

-- A pass has seen and learned more of a column. Nothing else has changed.
pub record Looks (old new : Part) : Type 0 where
  pub only : new ≡ record old { reach = new.reach; known = new.known; loads = new.loads }
  pub known : GrowsTo old.known new.known

-- A pass has seen and learned more of the columns. It fixed no departure.
pub record LooksAtAll (old new : View) : Type 0 where
  pub share : new.share ≡ old.share
  pub marks : length new.marks ≡ length old.marks
  pub parts : (c : ℕ) → Looks (part_of c old) (part_of c new)

-- What the writing of a packet says by how the sending ends, if it does.
abbrev pub PutMeans : SinkState → SinkState → List ℕ → Option SenderEnd → Type 0
PutMeans old new bytes None = Wrote old.written new.written bytes
PutMeans old new bytes (Some sent.Sent) = ⊥
PutMeans old new bytes (Some sent.Lost) =
    WrotePrefix old.written new.written bytes × Increased old.faults new.faults
PutMeans old new bytes (Some sent.NoMemory) = new.written ≡ old.written

pub record PutsPacket (old new : SinkState) (bytes : List ℕ) (answer : Option SenderEnd) : Type 0
  where
    pub later : old.faults ≤ new.faults
    pub means : PutMeans old new bytes answer

-- How much of a column is sent once its next entry is, if that was seen: its next play, or its
-- departure after the last.
abbrev pub next_count : Seen → Seen → Option Seen
next_count count seen =
    if count.left then None
    else (if nat_lt count.plays seen.plays
    then Some (record { plays = count.plays + 1; left = false })
    else (if seen.left then Some (record { plays = count.plays; left = true }) else None))

-- The entry of a client at a frame was taken from the table and written.
pub record SendsEntry (c n : ℕ) (old new : SinkState) (before after : View)
    (answer : Option SenderEnd) : Type 0 where
  pub entry : one_entry
  pub takes : TakesSo c before after n entry
  pub puts : PutsPacket old new (down_bytes (down.Entry c n entry)) answer

-- What an attempt to send the next entry of a column says: none was seen; or it was written; or the
-- link failed within it; or memory ran out before it.
abbrev pub NextMeans :
    ℕ → SinkState → SinkState → Column → List At → Seen → Result Bool SenderEnd → Type 0
NextMeans c old new known entries count (Ok false) =
    (new.written ≡ old.written) × SentSoFar c entries known count
NextMeans c old new known entries count (Ok true) =
    (n : ℕ) × (e : one_entry) × Wrote old.written new.written (down_bytes (down.Entry c n e))
    × SentSoFar c (entries ++ record { client = c; frame = n; entry = e } ∷ []) known count
NextMeans c old new known entries count (Err sent.Lost) =
    (n : ℕ) × (e : one_entry)
    × WrotePrefix old.written new.written (down_bytes (down.Entry c n e))
    × Increased old.faults new.faults
    × SentColumn c (entries ++ record { client = c; frame = n; entry = e } ∷ []) known
NextMeans c old new known entries count (Err sent.NoMemory) =
    (new.written ≡ old.written) × SentColumn c entries known
NextMeans c old new known entries count (Err sent.Sent) = ⊥

pub record SendsNext (c : ℕ) (old new : SinkState) (before after : View) (count next : Seen)
    (answer : Result Bool SenderEnd) : Type 0 where
  pub later : old.faults ≤ new.faults
  pub looks : Looks (part_of c before) (part_of c after)
  pub others : OthersStay c before after
  pub means : (entries : List At) → SentSoFar c entries (part_of c before).known count →
      NextMeans c old new (part_of c after).known entries next answer

-- Sending that goes on: all of these entries were written after the welcome.
pub record Sending (clients : ℕ) (welcome : List ℕ) (old now : SinkState) (before view : View)
    (counts : List Seen) : Type 0 where
  pub entries : List At
  pub wrote : Wrote old.written now.written (welcome ++ entries_bytes entries)
  pub later : old.faults ≤ now.faults
  pub looks : LooksAtAll before view
  pub each : (c : ℕ) → c < clients →
      SentSoFar c entries (part_of c view).known (slice_index_or counts c nothing_sent)
  pub no_others : (c : ℕ) → clients ≤ c → of_client c entries ≡ []

-- What the end of the sending says: all of each column was written, its departure last; or the link
-- failed; or memory ran out.
abbrev pub SentMeans :
    ℕ → List ℕ → List At → SinkState → SinkState → View → SenderEnd → Type 0
SentMeans clients bytes entries old new view sent.Sent =
    Wrote old.written new.written bytes
    × ((c : ℕ) → c < clients →
    ((part_of c view).known.left ≡ true)
    × (of_client c entries ≡ entries_of (part_of c view).known))
SentMeans clients bytes entries old new view sent.Lost =
    WrotePrefix old.written new.written bytes × Increased old.faults new.faults
SentMeans clients bytes entries old new view sent.NoMemory =
    WrotePrefix old.written new.written bytes

-- What was sent: a prefix of the welcome and then of entries. Of each client they are the first ones
-- of its column.
pub record SendsTo (clients : ℕ) (welcome : List ℕ) (old new : SinkState) (before view : View)
    (answer : SenderEnd) : Type 0 where
  pub entries : List At
  pub later : old.faults ≤ new.faults
  pub looks : LooksAtAll before view
  pub each : (c : ℕ) → c < clients → SentColumn c entries (part_of c view).known
  pub no_others : (c : ℕ) → clients ≤ c → of_client c entries ≡ []
  pub means : SentMeans clients (welcome ++ entries_bytes entries) entries old new view answer

-- After one turn more the sending goes on, or has ended.
abbrev pub AfterSend :
    ℕ → List ℕ → SinkState → SinkState → View → View → List Seen → Option SenderEnd → Type 0
AfterSend clients welcome old now before view counts None =
    Sending clients welcome old now before view counts
AfterSend clients welcome old now before view counts (Some end) =
    SendsTo clients welcome old now before view end

-- The sending ends where the departure of each column was sent.
abbrev pub EndsIfAll : List Seen → Option SenderEnd → Type 0
EndsIfAll counts None = Unit {0}
EndsIfAll counts (Some sent.Sent) =
    (c : ℕ) → c < length counts → (slice_index_or counts c nothing_sent).left ≡ true
EndsIfAll counts (Some sent.Lost) = ⊥
EndsIfAll counts (Some sent.NoMemory) = ⊥
