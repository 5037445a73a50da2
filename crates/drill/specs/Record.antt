-- The record of a drill: what its events have left, and the outcome of each. No world stands in it:
-- a peer has what reached it and two counts, the server its columns and one.
use Rattle.std.specs.Prelude.{ℕ, zero, suc, List, [], ◌∷◌, ◌++◌, replicate, Option, None, Some}
use Rattle.std.specs.Prelude.{Result, Ok, Err, slice_get, slice_set, slice_index_or, fold, is_some}
use Rattle.std.specs.Prelude.{if◌then◌else◌}
use Rattle.game_orders.specs.declared.order.Order.{Order}
use Rattle.game_orders.specs.declared.entry.Entry.{Entry}
use Rattle.game_orders.specs.declared.entry.Entry.TheVariants.{Play}
use Rattle.frame_core.specs.Column.{Column, no_column, column_of, entry_at, put_answer}
use Rattle.frame_core.specs.Column.{leave_answer}
use Rattle.frame_core.specs.Ready.{ready_at}
use Rattle.frame_core.specs.Tick.{tick_answer, ticked_after}
use Rattle.frame_core.specs.Match.{Match, agreed_hash}
use Rattle.order_packets.specs.declared.up.Up.{Up as Packet}
use Rattle.order_packets.specs.declared.up.Up.TheVariants as packet
use Rattle.peer_core.specs.declared.arrived.Arrived.{Arrived as ArrivedEntry}
use Rattle.peer_core.specs.declared.seal_fault.SealFault.{SealFault}
use Rattle.peer_core.specs.Arrived.{ready_by, kept_at, with_arrived}
use Rattle.peer_core.specs.Peer.{seal_answer, sealed_after}
use Rattle.server_core.specs.Board.{report_answer, reports_of}
use Rattle.server_core.specs.Server.{columns_after_drop, columns_after_packet, reports_after_packet}
use Rattle.drill_words.specs.declared.event.Event.{Event}
use Rattle.drill_words.specs.declared.event.Event.TheVariants.{Seal, Up, Down, Tick, TickServer}
use Rattle.drill_words.specs.declared.event.Event.TheVariants.{DropClient, Report, Forge, Bye}
use Rattle.drill.specs.declared.sent.Sent.{Sent}
use Rattle.drill.specs.declared.outcome.Outcome.{Outcome}
use Rattle.drill.specs.declared.outcome.Outcome.TheVariants.{Sealed, NotSealed, NoPacket, Entered}
use Rattle.drill.specs.declared.outcome.Outcome.TheVariants.{Reported, Leaves, NoEntry}
use Rattle.drill.specs.declared.outcome.Outcome.TheVariants.{Arrived, Repeated, Ticking, ReportSent}
use Rattle.drill.specs.declared.outcome.Outcome.TheVariants.{NoFrame, ByeSent}
use Rattle.drill.specs.Entering.{entering_of}

-- What reached a peer, and how many frames it ticked and sealed.
pub record Reached : Type 0 where
  pub arrived : List ArrivedEntry
  pub ticked : ℕ
  pub sealed : ℕ

-- What the events so far have left: the packets that were sent up, the columns that the server
-- agreed, the reports that it keeps of each client by frame, what each peer has, and how many
-- frames the server ticked.
pub record Progress : Type 0 where
  pub sent : List Sent
  pub columns : List Column
  pub reports : List (List (Option ℕ))
  pub peers : List Reached
  pub ticked : ℕ

-- A peer that nothing has reached.
abbrev pub nothing_reached : Reached
nothing_reached = record { arrived = []; ticked = 0; sealed = 0 }

-- Before the first event of a match of so many clients.
abbrev pub opening : ℕ → Progress
opening clients =
    record {
      sent = [];
      columns = replicate clients no_column;
      reports = replicate clients [];
      peers = replicate clients nothing_reached;
      ticked = 0;
    }

-- What peer p has.
abbrev pub peer_at : Progress → ℕ → Reached
peer_at progress p = slice_index_or progress.peers p nothing_reached

-- Another state of peer p.
abbrev pub with_peer : Progress → ℕ → Reached → Progress
with_peer progress p reached = record progress { peers = slice_set progress.peers p reached }

-- What peer p answers to a seal, where a peer may seal this many frames ahead.
abbrev pub seal_of : ℕ → Progress → ℕ → Result ℕ SealFault
seal_of lag progress p =
    let peer = peer_at progress p in
    seal_answer peer.arrived p lag peer.ticked peer.sealed

-- The outcome of a seal that a peer answers so.
abbrev pub seal_outcome : Result ℕ SealFault → Outcome
seal_outcome (Ok frame) = Sealed frame
seal_outcome (Err fault) = NotSealed fault

-- A sealed frame is sent up, a refused one is not.
abbrev pub sent_by_seal : Result ℕ SealFault → ℕ → List Order → List Sent
sent_by_seal (Ok frame) p orders = record { client = p; packet = packet.Orders frame orders } ∷ []
sent_by_seal (Err fault) p orders = []

-- What a seal leaves: the packet that it sends, and the peer's count.
abbrev pub after_seal : Result ℕ SealFault → Progress → ℕ → List Order → Progress
after_seal answer progress p orders =
    record progress {
      sent = progress.sent ++ sent_by_seal answer p orders;
      peers =
          slice_set progress.peers p
          (record (peer_at progress p) {
            sealed = sealed_after answer (peer_at progress p).sealed;
          });
    }

-- The outcome of a client's packet at the server: orders are put as a play into the client's
-- column, a report goes to the board, and a farewell lets the client leave. No drill sends a
-- greeting.
abbrev pub packet_outcome : List Column → List (List (Option ℕ)) → ℕ → Packet → Outcome
packet_outcome columns reports client (packet.Hello version rules) = NoPacket
packet_outcome columns reports client (packet.Orders frame orders) =
    Entered client frame
    (entering_of (put_answer (column_of columns client) frame (Play orders)))
packet_outcome columns reports client (packet.Sync frame hash) =
    Reported client frame (report_answer (reports_of reports client) frame)
packet_outcome columns reports client packet.Bye =
    Leaves client (leave_answer (column_of columns client))

-- The outcome of an `up`: that of the packet that was sent, if it was.
abbrev pub up_outcome : Option Sent → List Column → List (List (Option ℕ)) → Outcome
up_outcome None columns reports = NoPacket
up_outcome (Some sent) columns reports = packet_outcome columns reports sent.client sent.packet

-- The columns after it.
abbrev pub columns_after_up : Option Sent → List Column → List Column
columns_after_up None columns = columns
columns_after_up (Some sent) columns = columns_after_packet columns sent.client sent.packet

-- The kept reports after it.
abbrev pub reports_after_up : Option Sent → List (List (Option ℕ)) → List (List (Option ℕ))
reports_after_up None reports = reports
reports_after_up (Some sent) reports = reports_after_packet reports sent.client sent.packet

-- The outcome of a `down` of the agreed entry of client c at frame n, if there is one, at a peer
-- that these reached: it is kept, if none is kept there already.
abbrev pub down_outcome : Option Entry → List ArrivedEntry → ℕ → ℕ → Outcome
down_outcome None arrived c n = NoEntry
down_outcome (Some entry) arrived c n =
    if is_some (kept_at arrived c n) then Repeated c n else Arrived c n

-- What has reached the peer then.
abbrev pub arrived_after_down : Option Entry → List ArrivedEntry → ℕ → ℕ → List ArrivedEntry
arrived_after_down None arrived c n = arrived
arrived_after_down (Some entry) arrived c n =
    if is_some (kept_at arrived c n) then arrived
    else with_arrived (record { client = c; frame = n; entry = entry }) arrived

-- A peer that has ticked reports its last frame, with the hash of its world after it.
abbrev pub report_outcome : ℕ → Outcome
report_outcome zero = NoFrame
report_outcome (suc frame) = ReportSent frame

-- The packet of that report.
abbrev pub sent_by_report : (ℕ → ℕ) → ℕ → ℕ → List Sent
sent_by_report hash_after p zero = []
sent_by_report hash_after p (suc frame) =
    record { client = p; packet = packet.Sync frame (hash_after (suc frame)) } ∷ []

-- The outcome of an event.
abbrev pub outcome_of : {W : Type 0} → Match W → Progress → Event → Outcome
outcome_of m progress (Seal p orders) = seal_outcome (seal_of m.lag progress p)
outcome_of m progress (Up number) =
    up_outcome (slice_get progress.sent number) progress.columns progress.reports
outcome_of m progress (Down p c n) =
    down_outcome (entry_at (column_of progress.columns c) n) (peer_at progress p).arrived c n
outcome_of m progress (Tick p) =
    Ticking
    (tick_answer (ready_by (peer_at progress p).arrived m.clients (peer_at progress p).ticked)
    (peer_at progress p).ticked)
outcome_of m progress TickServer =
    Ticking (tick_answer (ready_at progress.columns progress.ticked) progress.ticked)
outcome_of m progress (DropClient client) =
    Leaves client (leave_answer (column_of progress.columns client))
outcome_of m progress (Report p) = report_outcome (peer_at progress p).ticked
outcome_of m progress (Forge client frame hash) = ReportSent frame
outcome_of m progress (Bye p) = ByeSent

-- What an event leaves.
abbrev pub after_event : {W : Type 0} → Match W → Progress → Event → Progress
after_event m progress (Seal p orders) = after_seal (seal_of m.lag progress p) progress p orders
after_event m progress (Up number) =
    record progress {
      columns = columns_after_up (slice_get progress.sent number) progress.columns;
      reports = reports_after_up (slice_get progress.sent number) progress.reports;
    }
after_event m progress (Down p c n) =
    with_peer progress p
    (record (peer_at progress p) {
      arrived =
          arrived_after_down (entry_at (column_of progress.columns c) n)
          (peer_at progress p).arrived c n;
    })
after_event m progress (Tick p) =
    with_peer progress p
    (record (peer_at progress p) {
      ticked =
          ticked_after (ready_by (peer_at progress p).arrived m.clients (peer_at progress p).ticked)
          (peer_at progress p).ticked;
    })
after_event m progress TickServer =
    record progress {
      ticked = ticked_after (ready_at progress.columns progress.ticked) progress.ticked;
    }
after_event m progress (DropClient client) =
    record progress { columns = columns_after_drop progress.columns client }
after_event m progress (Report p) =
    record progress {
      sent =
          progress.sent
          ++ sent_by_report (agreed_hash m progress.columns) p (peer_at progress p).ticked;
    }
after_event m progress (Forge client frame hash) =
    record progress {
      sent = progress.sent ++ record { client = client; packet = packet.Sync frame hash } ∷ [];
    }
after_event m progress (Bye p) =
    record progress { sent = progress.sent ++ record { client = p; packet = packet.Bye } ∷ [] }

-- What all events leave, first to last.
abbrev pub after_events : {W : Type 0} → Match W → Progress → List Event → Progress
after_events m = fold (after_event m)

-- The outcome of each event, in what the events before it left.
abbrev pub outcomes : {W : Type 0} → Match W → Progress → List Event → List Outcome
outcomes m progress [] = []
outcomes m progress (event ∷ events) =
    outcome_of m progress event ∷ outcomes m (after_event m progress event) events

-- The record of a drill of these events.
abbrev pub record_of : {W : Type 0} → Match W → List Event → Progress
record_of m events = after_events m (opening m.clients) events
