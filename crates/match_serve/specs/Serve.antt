-- A match that was served over links, and what is handed back of it.
use Rattle.std.specs.Prelude.{◌≡◌, ◌≢◌, ℕ, ◌^◌, ◌<◌, ◌≤◌, ◌⊎◌, Bool, true, false}
use Rattle.std.specs.Prelude.{List, length, take, drop, slice_get, slice_index_or}
use Rattle.std.specs.Prelude.{Option, Some, IfSome}
use Rattle.std.specs.List.{list_any}
use Rattle.std.specs.Option.{option_map}
use Rattle.game_io.specs.SourceState.{SourceState}
use Rattle.game_io.specs.SinkState.{SinkState}
use Rattle.game_io.specs.NetState.{NetState, TakenBack, IsNewLink, taken_back, faults_taken_back}
use Rattle.game_orders.specs.declared.limits.TheConstants.{MAX_FRAMES}
use Rattle.frame_core.specs.Column.{Column, column_of, length_of}
use Rattle.frame_core.specs.Agreed.{IsAt}
use Rattle.frame_core.specs.Match.{Match}
use Rattle.server_core.specs.Board.{BoardState, reports_of, report_at}
use Rattle.server_core.specs.Served.{agreed_marks}
use Rattle.frame_table.specs.declared.pass.Pass.{Pass}
use Rattle.frame_table.specs.declared.table.FrameTable.{FrameTable}
use Rattle.frame_table.specs.Word.{whole_of}
use Rattle.frame_table.specs.Calls.{plan_of, view_of, standing, IsPassOf}
use Rattle.match_net.specs.declared.limits.TheConstants.{MAX_LINK_BYTES}
use Rattle.match_net.specs.declared.invite.Invite.{Invite}
use Rattle.match_net.specs.declared.reader_end.ReaderEnd.TheVariants as reader
use Rattle.match_net.specs.PieceTaking.{Took}
use Rattle.match_net.specs.Session.{Session, Makes}
use Rattle.match_net.specs.Reading.{EndMeans}
use Rattle.match_serve.specs.declared.link_end.LinkEnd.{LinkEnd}
use Rattle.match_serve.specs.declared.link_end.LinkEnd.TheVariants as end
use Rattle.match_serve.specs.Passes.{columns_of}
use Rattle.match_serve.specs.Console.{ConsoleRead, holds_kick, kicks_client}
use Rattle.match_serve.specs.Seats.{invite_of}
use Rattle.match_serve.specs.Sent.{SendsBy, SendsAllBy, greeting_in}
use Rattle.match_serve.specs.Heard.{first_report}

-- The table of a match that is over, with a pass that has the whole share: so each other pass was
-- joined into it. It has seen and knows each whole column, in which the client has left.
pub record IsOver (clients : ℕ) (table : FrameTable) (pass : Pass) : Type 0 where
  pub of_table : IsPassOf table pass
  pub count : length (plan_of table) ≡ clients
  pub columns : length (columns_of pass) ≡ clients
  pub share : (view_of pass).share ≡ 2 ^ 62
  pub seen : (c : ℕ) → c < clients →
      (standing pass c).reach ≡ whole_of (column_of (columns_of pass) c)
  pub known : (c : ℕ) → c < clients →
      (standing pass c).known ≡ column_of (columns_of pass) c
  pub left : (c : ℕ) → c < clients → (column_of (columns_of pass) c).left ≡ true

-- The number is the length of the longest of the columns.
pub record IsGreatest (clients : ℕ) (columns : List Column) (n : ℕ) : Type 0 where
  pub most : (c : ℕ) → c < clients → length_of (column_of columns c) ≤ n
  pub reached :
      (n ≡ 0) ⊎ ((c : ℕ) × (c < clients) × (n ≤ length_of (column_of columns c)))

-- Another let the client leave at this frame, after all its plays: by the time that orders for that
-- frame or a later one came, or that the client's own bytes ended.
abbrev pub StopsAt :
    ℕ → ℕ → List ℕ → Session → List ℕ → SourceState → SourceState → ℕ → Type 0
StopsAt c here bytes session rest old new at =
    (at ≡ length session.plays)
    × (EndMeans c here bytes session rest old new reader.Ended
    ⊎ EndMeans c here bytes session rest old new (reader.LeftAt at))

-- What the end of a link says of its bytes, of whether the console kicked its client, and of how often
-- the link failed. It says nothing where memory ran out.
abbrev pub EndTells :
    ℕ → ℕ → List ℕ → Session → List ℕ → SourceState → SourceState → Bool → ℕ → LinkEnd → Type 0
EndTells c here bytes session rest old new kicked faults end.Ended =
    EndMeans c here bytes session rest old new reader.Ended
EndTells c here bytes session rest old new kicked faults (end.Refused cause) =
    EndMeans c here bytes session rest old new (reader.Refused cause)
EndTells c here bytes session rest old new kicked faults (end.Kicked at) =
    (kicked ≡ true) × StopsAt c here bytes session rest old new at
EndTells c here bytes session rest old new kicked faults end.Lost =
    (0 < faults)
    × (EndMeans c here bytes session rest old new reader.Lost
    ⊎ ((kicked ≡ false) × ((at : ℕ) × StopsAt c here bytes session rest old new at)))
EndTells c here bytes session rest old new kicked faults end.Memory = Unit {0}

-- How link c was served. Its halves were in these states when the net gave it and when the net took
-- it back. These bytes were taken from it, as many as the count says: where the link's bytes are
-- observable, that many first ones of them. Their first packets make this session, and this is left
-- of them. The session's plays and then the departure are the client's column; of its reports the
-- board has the first for each frame. Written to it was what its greeting is answered, and all of
-- that where the link has not failed and memory did not run out for it.
pub record ServesLink (c : ℕ) (invite : Invite) (columns : List Column)
    (reports : List (Option ℕ)) (coming : Option (List (List ℕ))) (kicked : Bool)
    (back : Option (Option TakenBack)) (how : LinkEnd) (count : ℕ) : Type 0 where
  pub input : SourceState
  pub input_after : SourceState
  pub output : SinkState
  pub output_after : SinkState
  pub is_new : IsNewLink (option_map (drop c) coming) input output
  pub is_back : back ≡ Some (Some (taken_back input_after output_after))
  pub bytes : List ℕ
  pub took : Took input.left input_after.left bytes
  pub few : length bytes ≤ MAX_LINK_BYTES
  pub counted : count ≡ length bytes
  pub first : IfSome input.left (λ observed. bytes ≡ take count observed)
  pub session : Session
  pub rest : List ℕ
  pub makes : Makes c invite.rules bytes session rest
  pub column : column_of columns c ≡ record { plays = session.plays; left = true }
  pub ends :
      EndTells c invite.rules bytes session rest input input_after kicked (faults_taken_back back) how
  pub kept : (n : ℕ) → n < MAX_FRAMES → report_at reports n ≡ first_report session.reports n
  pub sends :
      SendsBy (greeting_in invite.rules bytes) (invite_of invite c) columns output.written
      output_after.written
  pub sends_all : how ≢ end.Memory → faults_taken_back back ≡ 0 →
      SendsAllBy (greeting_in invite.rules bytes) (invite_of invite c) columns output.written
      output_after.written

-- A match was served. The world is the agreed world of all frames, as many as the longest column
-- has plays, and the board's wanted hashes are those of the agreed worlds after each. `coming` is
-- what is observable of the links to come. Of the console's bytes those that were taken are known,
-- and their lines in two parts, of which the second lets no client go: where the end is that of a
-- client whom the console kicked, a line of the first part kicks it, or its link had failed.
pub record ServesMatch {W : Type 0} (of_match : Match W) (invite : Invite)
    (coming : Option (List (List ℕ))) (console_old console_new : SourceState)
    (net_after : NetState) (world : W) (steps : ℕ) (table : FrameTable) (pass : Pass)
    (board : BoardState) (ends : List LinkEnd) (taken : List ℕ) : Type 0 where
  pub console : ConsoleRead console_old console_new
  pub over : IsOver invite.clients table pass
  pub greatest : IsGreatest invite.clients (columns_of pass) steps
  pub at : IsAt of_match.after of_match.start (columns_of pass) steps world
  pub marks : board.wanted ≡ agreed_marks of_match (columns_of pass) steps
  pub boards : length board.reports ≡ invite.clients
  pub links_given : length net_after.given ≡ invite.clients
  pub still_coming : net_after.coming ≡ option_map (drop invite.clients) coming
  pub ends_count : length ends ≡ invite.clients
  pub taken_count : length taken ≡ invite.clients
  pub links : (c : ℕ) → c < invite.clients →
      ServesLink c invite (columns_of pass) (reports_of board.reports c) coming
      (holds_kick console.bytes c) (slice_get net_after.given c) (slice_index_or ends c end.Memory)
      (slice_index_or taken c 0)
  pub late : (c at : ℕ) → c < invite.clients → slice_index_or ends c end.Memory ≡ end.Kicked at →
      list_any (kicks_client c) console.before ≡ false →
      0 < faults_taken_back (slice_get net_after.given c)
