-- The report of a drill.
use Rattle.std.specs.Prelude.{ℕ, ◌+◌, List, [], ◌∷◌, ◌++◌, Option, None, Some}
use Rattle.frame_core.specs.declared.summary.Summary.{Summary}
use Rattle.frame_core.specs.Column.{Column, length_of}
use Rattle.peer_core.specs.Peer.{PeerState}
use Rattle.server_core.specs.declared.alarm.Alarm.{Alarm}
use Rattle.server_core.specs.Alarm.{alarm_of}
use Rattle.server_core.specs.Server.{ServerState}
use Rattle.drill_words.specs.declared.event.Event.{Event}
use Rattle.frame_core.specs.Match.{Match}
use Rattle.drill.specs.Text.{outcome_lines, column_line, peer_head, server_head, world_text}
use Rattle.drill.specs.Text.{alarm_line, end_line}
use Rattle.drill.specs.Record.{opening, outcomes, record_of}
use Rattle.drill.specs.Shown.{shown_server, shown_peers}

-- The lines of the columns from client c on.
abbrev pub column_lines : ℕ → List Column → List ℕ
column_lines c [] = []
column_lines c (column ∷ rest) =
    column_line c (length_of column) column.left ++ column_lines (c + 1) rest

-- The lines of the peers from peer p on, each with its world.
abbrev pub peer_lines : {W : Type 0} → (W → ℕ) → (W → Summary) → ℕ → List (PeerState W) → List ℕ
peer_lines hash summary p [] = []
peer_lines hash summary p (peer ∷ rest) =
    peer_head p peer.ticked peer.sealed ++ world_text hash summary peer.world
    ++ peer_lines hash summary (p + 1) rest

-- A client's alarm, if there is one.
abbrev pub alarm_text : ℕ → Option Alarm → List ℕ
alarm_text c None = []
alarm_text c (Some alarm) = alarm_line c alarm

-- The lines of the alarms from client c on: the least frame that the server ticked on which the
-- client's kept report differs from the hash of the server's world after it.
abbrev pub alarm_lines : List ℕ → ℕ → List (List (Option ℕ)) → List ℕ
alarm_lines marks c [] = []
alarm_lines marks c (reports ∷ rest) =
    alarm_text c (alarm_of reports marks) ++ alarm_lines marks (c + 1) rest

-- The closing lines, which follow those of the events: the columns, each peer, the server, the
-- alarms and the end.
abbrev pub closing :
    {W : Type 0} → (W → ℕ) → (W → Summary) → ServerState W → List (PeerState W) → List ℕ
closing hash summary server peers =
    column_lines 0 server.columns ++ peer_lines hash summary 0 peers
    ++ server_head server.ticked ++ world_text hash summary server.world
    ++ alarm_lines server.marks 0 server.reports ++ end_line

-- The report of a drill of these events: a line for each event, then the closing lines of the
-- server and the peers that the record shows.
abbrev pub report : {W : Type 0} → Match W → List Event → List ℕ
report m events =
    outcome_lines 0 (outcomes m (opening m.clients) events)
    ++ closing m.hash m.summary (shown_server m (record_of m events))
    (shown_peers m (record_of m events))
