-- A match that runs: how its server and its peers stand to its record.
use Rattle.std.specs.Prelude.{◌≡◌, ℕ, ◌+◌, ◌<◌, List, [], ◌∷◌, length, map, Result, IfOk, OnOk}
use Rattle.std.specs.List.{AllByRecursion}
use Rattle.game_orders.specs.declared.entry.Entry.{Entry}
use Rattle.frame_core.specs.declared.summary.Summary.{Summary}
use Rattle.frame_core.specs.Column.{IsWithinFrames}
use Rattle.order_packets.specs.declared.up.Up.{Up as Packet}
use Rattle.order_packets.specs.declared.up.Up.TheVariants as packet
use Rattle.peer_core.specs.declared.receipt.Receipt.{Receipt}
use Rattle.peer_core.specs.declared.receipt.Receipt.TheVariants.{Kept, Repeat, Conflict, Past}
use Rattle.peer_core.specs.declared.receipt.Receipt.TheVariants.{Beyond}
use Rattle.peer_core.specs.Peer.{PeerState}
use Rattle.peer_core.specs.Faithful.{IsFaithful}
use Rattle.server_core.specs.declared.up_answer.UpAnswer.{UpAnswer}
use Rattle.server_core.specs.declared.up_answer.UpAnswer.TheVariants as answer
use Rattle.server_core.specs.Server.{ServerState}
use Rattle.server_core.specs.Served.{IsServed}
use Rattle.drill_words.specs.declared.event.Event.{Event}
use Rattle.drill.specs.declared.sent.Sent.{Sent}
use Rattle.drill.specs.declared.outcome.Outcome.{Outcome}
use Rattle.drill.specs.declared.outcome.Outcome.TheVariants.{Entered, Reported, Leaves, NoPacket}
use Rattle.drill.specs.declared.outcome.Outcome.TheVariants.{Arrived, Repeated}
use Rattle.frame_core.specs.Match.{Match}
use Rattle.drill.specs.Entering.{entering_of}
use Rattle.drill.specs.Record.{Reached, Progress, outcome_of, after_event}

-- What a running match is seen as: its clients and its lag, the packets that were sent up in
-- order, the server, and the peers by rising number.
pub record RunState (W : Type 0) : Type 0 where
  pub clients : ℕ
  pub lag : ℕ
  pub sent : List Sent
  pub server : ServerState W
  pub peers : List (PeerState W)

-- What a peer has, without its world.
abbrev pub reached_of : {W : Type 0} → PeerState W → Reached
reached_of peer = record { arrived = peer.arrived; ticked = peer.ticked; sealed = peer.sealed }

-- The record that a running match shows.
abbrev pub progress_of : {W : Type 0} → RunState W → Progress
progress_of run =
    record {
      sent = run.sent;
      columns = run.server.columns;
      reports = run.server.reports;
      peers = map reached_of run.peers;
      ticked = run.server.ticked;
    }

-- The match that runs, for each opening world that it may have begun with.
abbrev pub match_from :
    {W : Type 0} → (W → List Entry → W) → (W → ℕ) → (W → Summary) → RunState W → W → Match W
match_from after hash summary run start =
    record {
      start = start;
      after = after;
      hash = hash;
      summary = summary;
      clients = run.clients;
      lag = run.lag;
    }

-- The frame that a packet names, 0 of one that names none.
abbrev pub packet_frame : Packet → ℕ
packet_frame (packet.Hello version rules) = 0
packet_frame (packet.Orders frame orders) = frame
packet_frame (packet.Sync frame hash) = frame
packet_frame packet.Bye = 0

-- The outcome of a client's packet that the server answers so.
abbrev pub answer_outcome : ℕ → Packet → UpAnswer → Outcome
answer_outcome client packet (answer.Entry put) =
    Entered client (packet_frame packet) (entering_of put)
answer_outcome client packet (answer.Report reported) =
    Reported client (packet_frame packet) reported
answer_outcome client packet (answer.Bye leaving) = Leaves client leaving
answer_outcome client packet answer.Ignored = NoPacket

-- The outcome of a delivery where the entry is agreed: `Kept` is an arrival and `Repeat` is a
-- repetition. The last three never come for an agreed entry.
abbrev pub receipt_outcome : ℕ → ℕ → Receipt → Outcome
receipt_outcome client frame Kept = Arrived client frame
receipt_outcome client frame Repeat = Repeated client frame
receipt_outcome client frame Conflict = Repeated client frame
receipt_outcome client frame (Past at) = Repeated client frame
receipt_outcome client frame Beyond = Repeated client frame

-- The packet is no greeting.
abbrev pub IsNoGreeting : Packet → Type 0
IsNoGreeting (packet.Hello version rules) = ⊥
IsNoGreeting (packet.Orders frame orders) = Unit {0}
IsNoGreeting (packet.Sync frame hash) = Unit {0}
IsNoGreeting packet.Bye = Unit {0}

-- A client of the match sent the packet, which is no greeting.
pub record IsSentBy (clients : ℕ) (sent : Sent) : Type 0 where
  pub client : sent.client < clients
  pub packet : IsNoGreeting sent.packet

-- The peer has this number in a match of so many clients with this lag.
pub record IsNumbered {W : Type 0} (clients lag number : ℕ) (peer : PeerState W) : Type 0 where
  pub me : peer.me ≡ number
  pub clients_are : peer.clients ≡ clients
  pub lag_is : peer.lag ≡ lag

-- The peers have the numbers from this one on.
abbrev pub AreNumbered : {W : Type 0} → ℕ → ℕ → ℕ → List (PeerState W) → Type 0
AreNumbered clients lag number [] = Unit {0}
AreNumbered clients lag number (peer ∷ rest) =
    IsNumbered clients lag number peer × AreNumbered clients lag (number + 1) rest

-- The packets, the server and the peers are those of the match, and no column is longer than a
-- match may be.
pub record IsWhole {W : Type 0} (run : RunState W) : Type 0 where
  pub senders : AllByRecursion (IsSentBy run.clients) run.sent
  pub columns : length run.server.columns ≡ run.clients
  pub reports : length run.server.reports ≡ run.clients
  pub in_frames : AllByRecursion IsWithinFrames run.server.columns
  pub peers : length run.peers ≡ run.clients
  pub numbers : AreNumbered run.clients run.lag 0 run.peers

-- Every world is the agreed world of its own ticked frames, the marks are the hashes of the agreed
-- worlds, and what reached a peer stands in the columns.
pub record IsSound {W : Type 0} (m : Match W) (run : RunState W) : Type 0 where
  pub served : IsServed m run.server
  pub each : AllByRecursion (IsFaithful m.after m.start run.server.columns) run.peers

-- The event had the outcome that the record says, and left the record that it says.
pub record FollowsRecord {W : Type 0}
    (m : Match W) (event : Event) (old new : Progress) (outcome : Outcome)
    : Type 0 where
  pub outcome_is : outcome ≡ outcome_of m old event
  pub left : new ≡ after_event m old event

-- What an event did to a running match, where there was memory for it: the match is whole still,
-- and from whatever opening world it was sound, it followed the record and is sound again.
pub record RunsEvent {W E : Type 0}
    (match_of : W → Match W) (event : Event) (old new : RunState W) (result : Result Outcome E)
    : Type 0 where
  pub whole : OnOk result (IsWhole new)
  pub follows :
      IfOk result
      (λ outcome. (start : W) → IsSound (match_of start) old →
      FollowsRecord (match_of start) event (progress_of old) (progress_of new) outcome
      × IsSound (match_of start) new)
