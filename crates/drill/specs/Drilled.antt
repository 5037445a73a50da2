-- What a drill reports and hands back.
use Rattle.std.specs.Prelude.{◌≡◌, ℕ, List, length, Some, Result, IfOk, IsErrOf, slice_get}
use Rattle.game_orders.specs.declared.entry.Entry.{Entry}
use Rattle.frame_core.specs.declared.summary.Summary.{Summary}
use Rattle.game_io.specs.SinkState.{SinkState, WritesBytes}
use Rattle.peer_core.specs.Peer.{PeerState}
use Rattle.server_core.specs.Alarm.{alarm_of}
use Rattle.server_core.specs.Board.{reports_of}
use Rattle.server_core.specs.Served.{IsAgreedAlarm}
use Rattle.server_core.specs.Server.{ServerState}
use Rattle.drill_words.specs.declared.event.Event.{Event}
use Rattle.drill.specs.declared.drilled.Drilled.{Drilled}
use Rattle.drill.specs.declared.run_fault.RunFault.{RunFault}
use Rattle.drill.specs.declared.run_fault.RunFault.TheVariants.{Write}
use Rattle.frame_core.specs.Agreed.{AreReady}
use Rattle.frame_core.specs.Match.{Match, agreed_hash}
use Rattle.drill.specs.Record.{record_of}
use Rattle.drill.specs.Report.{report}
use Rattle.drill.specs.Shown.{shown_server, shown_peers}

-- The match of a drill with this seed, so many clients and this lag, whose opening worlds are
-- made so.
abbrev pub match_of :
    {W : Type 0} → (W → List Entry → W) → (W → ℕ) → (W → Summary) → (made : ℕ → ℕ → W) →
    (seed clients lag : ℕ) → Match W
match_of after hash summary made seed clients lag =
    record {
      start = made seed clients;
      after = after;
      hash = hash;
      summary = summary;
      clients = clients;
      lag = lag;
    }

-- The server and the peers agree: each frame that one of them ticked is ready by the columns,
-- those that ticked equally many frames are in equal worlds, and a client's alarm is the least
-- ticked frame whose kept report differs from the hash of the agreed world after it.
pub record Agree {W : Type 0}
    (m : Match W) (server : ServerState W) (peers : List (PeerState W)) : Type 0 where
  pub server_ready : AreReady server.columns server.ticked
  pub peers_ready :
      (p : ℕ) (a : PeerState W) → slice_get peers p ≡ Some a → AreReady server.columns a.ticked
  pub same_as_server :
      (p : ℕ) (a : PeerState W) → slice_get peers p ≡ Some a → a.ticked ≡ server.ticked →
      a.world ≡ server.world
  pub same_peers :
      (p q : ℕ) (a b : PeerState W) → slice_get peers p ≡ Some a → slice_get peers q ≡ Some b →
      a.ticked ≡ b.ticked → a.world ≡ b.world
  pub alarms :
      (c : ℕ) →
      IsAgreedAlarm (reports_of server.reports c) server.ticked (agreed_hash m server.columns)
      (alarm_of (reports_of server.reports c) server.marks)

-- The server and the peers are those that the record of the events shows, one peer for each
-- client and each world the agreed world of its own ticked frames, and they agree.
pub record IsLeftBy {W : Type 0}
    (m : Match W) (events : List Event) (left : Drilled W) : Type 0 where
  pub server : left.server ≡ shown_server m (record_of m events)
  pub peers : left.peers ≡ shown_peers m (record_of m events)
  pub columns : length left.server.columns ≡ m.clients
  pub count : length left.peers ≡ m.clients
  pub agree : Agree m left.server left.peers

-- A run of these events writes its report to the sink, and hands back what they left. `Write` is
-- answered only where the sink's count of faults rose.
pub record Reports {W : Type 0}
    (m : Match W) (events : List Event) (old new : SinkState) (result : Result (Drilled W) RunFault)
    : Type 0 where
  pub writes : WritesBytes old new (report m events) result (IsErrOf result Write)
  pub leaves : IfOk result (λ left. IsLeftBy m events left)
