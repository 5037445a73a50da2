-- A server: its columns, what the clients reported, its ticked frames with the hashes after them,
-- and its world.
use Rattle.std.specs.Prelude.{◌≡◌, ℕ, ◌≤◌, List, [], ◌∷◌, ◌++◌, length, replicate, slice_set}
use Rattle.std.specs.Prelude.{Option}
use Rattle.game_orders.specs.declared.limits.TheConstants.{MAX_FRAMES}
use Rattle.game_orders.specs.declared.entry.Entry.{Entry}
use Rattle.game_orders.specs.declared.entry.Entry.TheVariants.{Play}
use Rattle.frame_core.specs.declared.ready.Ready.{Ready}
use Rattle.frame_core.specs.declared.ready.Ready.TheVariants.{Yes, NotYet, Over}
use Rattle.frame_core.specs.Column.{Column, no_column, column_of}
use Rattle.frame_core.specs.Column.{put_answer, put_column, leave_answer, left_column}
use Rattle.frame_core.specs.Ready.{ready_at, frame_at}
use Rattle.frame_core.specs.Agreed.{AreReady}
use Rattle.frame_core.specs.Tick.{ticked_after, stepped}
use Rattle.order_packets.specs.declared.up.Up.{Up}
use Rattle.order_packets.specs.declared.up.Up.TheVariants.{Hello, Orders, Sync, Bye}
use Rattle.server_core.specs.declared.up_answer.UpAnswer.{UpAnswer}
use Rattle.server_core.specs.declared.up_answer.UpAnswer.TheVariants.{Entry as PutInto, Report}
use Rattle.server_core.specs.declared.up_answer.UpAnswer.TheVariants.{Bye as Left, Ignored}
use Rattle.server_core.specs.Board.{BoardState, report_answer, reports_of, reports_after_report}

-- What a server is seen as. `marks` has the world's hash after each ticked frame.
pub record ServerState (W : Type 0) : Type 0 where
  pub columns : List Column
  pub reports : List (List (Option ℕ))
  pub ticked : ℕ
  pub marks : List ℕ
  pub world : W

-- What every server is: each client of its world has a column and a list of reports, each ticked
-- frame is ready by the columns, and for each the world made one step and left one mark.
pub record IsServer {W : Type 0} (clients_of steps_of : W → ℕ) (server : ServerState W)
    : Type 0 where
  pub clients : clients_of server.world ≡ length server.columns
  pub reports : length server.reports ≡ length server.columns
  pub steps : steps_of server.world ≡ server.ticked
  pub marks : length server.marks ≡ server.ticked
  pub limit : server.ticked ≤ MAX_FRAMES
  pub ready : AreReady server.columns server.ticked

-- The server of a match of so many clients before its first call, over this world.
abbrev pub fresh_server : {W : Type 0} → ℕ → W → ServerState W
fresh_server clients world =
    record {
      columns = replicate clients no_column;
      reports = replicate clients [];
      ticked = 0;
      marks = [];
      world = world;
    }

-- The server's board: what was reported, and the marks as what is wanted.
abbrev pub board_of : {W : Type 0} → ServerState W → BoardState
board_of server = record { reports = server.reports; wanted = server.marks }

-- The answer to a packet of client c.
abbrev pub packet_answer : List Column → List (List (Option ℕ)) → ℕ → Up → UpAnswer
packet_answer columns reports c (Hello version rules) = Ignored
packet_answer columns reports c (Orders frame orders) =
    PutInto (put_answer (column_of columns c) frame (Play orders))
packet_answer columns reports c (Sync frame hash) =
    Report (report_answer (reports_of reports c) frame)
packet_answer columns reports c Bye = Left (leave_answer (column_of columns c))

-- The columns after client c was dropped: its departure stands after its plays.
abbrev pub columns_after_drop : List Column → ℕ → List Column
columns_after_drop columns c = slice_set columns c (left_column (column_of columns c))

-- The columns after a packet of client c.
abbrev pub columns_after_packet : List Column → ℕ → Up → List Column
columns_after_packet columns c (Hello version rules) = columns
columns_after_packet columns c (Orders frame orders) =
    slice_set columns c (put_column (column_of columns c) frame (Play orders))
columns_after_packet columns c (Sync frame hash) = columns
columns_after_packet columns c Bye = columns_after_drop columns c

-- The reports after a packet of client c.
abbrev pub reports_after_packet : List (List (Option ℕ)) → ℕ → Up → List (List (Option ℕ))
reports_after_packet reports c (Hello version rules) = reports
reports_after_packet reports c (Orders frame orders) = reports
reports_after_packet reports c (Sync frame hash) = reports_after_report reports c frame hash
reports_after_packet reports c Bye = reports

-- The server after a packet of client c.
abbrev pub after_packet : {W : Type 0} → ServerState W → ℕ → Up → ServerState W
after_packet server c packet =
    record server {
      columns = columns_after_packet server.columns c packet;
      reports = reports_after_packet server.reports c packet;
    }

-- The server after client c was dropped.
abbrev pub after_drop : {W : Type 0} → ServerState W → ℕ → ServerState W
after_drop server c = record server { columns = columns_after_drop server.columns c }

-- The marks after a tick.
abbrev pub marks_after_tick : Ready → List ℕ → ℕ → List ℕ
marks_after_tick Yes marks hash = marks ++ hash ∷ []
marks_after_tick (NotYet c) marks hash = marks
marks_after_tick Over marks hash = marks

-- The server after a tick: one step by the agreed frame, and the hash after it, only where the
-- frame is ready.
abbrev pub after_tick :
    {W : Type 0} → (W → List Entry → W) → (W → ℕ) → ServerState W → ServerState W
after_tick after hash server =
    let ready = ready_at server.columns server.ticked in
    let world = stepped ready after server.world (frame_at server.columns server.ticked) in
    record server {
      ticked = ticked_after ready server.ticked;
      marks = marks_after_tick ready server.marks (hash world);
      world = world;
    }
