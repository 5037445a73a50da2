-- What the record of a drill says of its events: which event ticked a frame, which brought an
-- entry to a peer, which sealed a play and handed it up, which let a client leave, and which
-- handed up a report first. `record_after m events i` is the
-- record after the first i events.
use Rattle.std.specs.Prelude.{◌≡◌, ℕ, ◌<◌, List, Some, Ok, slice_get, take}
use Rattle.game_orders.specs.declared.order.Order.{Order}
use Rattle.game_orders.specs.declared.entry.Entry.{Entry}
use Rattle.frame_core.specs.declared.ready.Ready.TheVariants.{Yes}
use Rattle.frame_core.specs.Column.{column_of, entry_at}
use Rattle.frame_core.specs.Ready.{frame_at}
use Rattle.frame_core.specs.Agreed.{AreReady}
use Rattle.frame_core.specs.Grows.{Grows}
use Rattle.frame_core.specs.Match.{Match}
use Rattle.order_packets.specs.declared.up.Up.TheVariants.{Orders, Sync, Bye as Farewell}
use Rattle.peer_core.specs.Arrived.{ready_by}
use Rattle.drill_words.specs.declared.event.Event.{Event}
use Rattle.drill_words.specs.declared.event.Event.TheVariants.{Seal, Up, Down, Tick}
use Rattle.drill_words.specs.declared.event.Event.TheVariants.{DropClient, Bye}
use Rattle.drill.specs.Record.{Reached, Progress, peer_at, seal_of, record_of}

-- The record after the first i events.
abbrev pub record_after : {W : Type 0} → Match W → List Event → ℕ → Progress
record_after m events i = record_of m (take i events)

-- What reached peer p, and its counts, after the first i events.
abbrev pub peer_after : {W : Type 0} → Match W → List Event → ℕ → ℕ → Reached
peer_after m events i p = peer_at (record_after m events i) p

-- One of the first i events told peer p to tick when frame n was its next one and ready: each
-- client's play at n or departure by then had reached the peer, and one of them was a play.
pub record WasToldToTick {W : Type 0} (m : Match W) (events : List Event) (i p n : ℕ) : Type 0 where
  pub event : ℕ
  pub before : event < i
  pub told : slice_get events event ≡ Some (Tick p)
  pub next : (peer_after m events event p).ticked ≡ n
  pub ready : ready_by (peer_after m events event p).arrived m.clients n ≡ Yes

-- One of the first i events was a `down` to peer p that found this entry of client c at frame n.
pub record WasFound {W : Type 0}
    (m : Match W) (events : List Event) (i p c n : ℕ) (entry : Entry) : Type 0 where
  pub event : ℕ
  pub before : event < i
  pub told : slice_get events event ≡ Some (Down p c n)
  pub found : entry_at (column_of (record_after m events event).columns c) n ≡ Some entry

-- One of the first i events sealed these orders of client c for frame n, and a later one handed
-- up the packet of that seal.
pub record WasSealed {W : Type 0}
    (m : Match W) (events : List Event) (i c n : ℕ) (orders : List Order) : Type 0 where
  pub seal : ℕ
  pub up : ℕ
  pub number : ℕ
  pub first : seal < up
  pub before : up < i
  pub told : slice_get events seal ≡ Some (Seal c orders)
  pub sealed : seal_of m.lag (record_after m events seal) c ≡ Ok n
  pub handed : slice_get events up ≡ Some (Up number)
  pub packet :
      slice_get (record_after m events up).sent number
      ≡ Some (record { client = c; packet = Orders n orders })

-- One of the first i events dropped client c.
pub record WasDropped {W : Type 0} (m : Match W) (events : List Event) (i c : ℕ) : Type 0 where
  pub event : ℕ
  pub before : event < i
  pub told : slice_get events event ≡ Some (DropClient c)

-- One of the first i events sent a farewell of client c, and a later one handed it up.
pub record SaidFarewell {W : Type 0} (m : Match W) (events : List Event) (i c : ℕ) : Type 0 where
  pub bye : ℕ
  pub up : ℕ
  pub number : ℕ
  pub first : bye < up
  pub before : up < i
  pub told : slice_get events bye ≡ Some (Bye c)
  pub handed : slice_get events up ≡ Some (Up number)
  pub packet :
      slice_get (record_after m events up).sent number
      ≡ Some (record { client = c; packet = Farewell })

-- This event handed up a report of client c that its world has this hash after frame n.
pub record HandsUpReport {W : Type 0}
    (m : Match W) (events : List Event) (up c n hash : ℕ) : Type 0 where
  pub number : ℕ
  pub handed : slice_get events up ≡ Some (Up number)
  pub packet :
      slice_get (record_after m events up).sent number
      ≡ Some (record { client = c; packet = Sync n hash })

-- Of the first i events the first that handed up a report of client c for frame n had this hash.
pub record IsFirstReport {W : Type 0}
    (m : Match W) (events : List Event) (i c n hash : ℕ) : Type 0 where
  pub up : ℕ
  pub before : up < i
  pub report : HandsUpReport m events up c n hash
  pub first :
      (earlier other : ℕ) → earlier < up → HandsUpReport m events earlier c n other → ⊥

-- From the first i events to the first j the columns only grow, so the frames that the server and
-- the peers have ticked stay the same.
pub record ColumnsOnlyGrow {W : Type 0} (m : Match W) (events : List Event) (i j : ℕ) : Type 0 where
  pub grow : Grows (record_after m events i).columns (record_after m events j).columns
  pub ready : AreReady (record_after m events i).columns (record_after m events i).ticked
  pub frames :
      (k : ℕ) → k < (record_after m events i).ticked →
      frame_at (record_after m events j).columns k ≡ frame_at (record_after m events i).columns k
  pub peers_ready :
      (p : ℕ) → AreReady (record_after m events i).columns (peer_after m events i p).ticked
  pub peers_frames :
      (p k : ℕ) → k < (peer_after m events i p).ticked →
      frame_at (record_after m events j).columns k ≡ frame_at (record_after m events i).columns k
