-- What becomes of a link that is done with.
use Rattle.std.specs.Prelude.{◌≡◌, ◌≢◌, ℕ, ◌+◌, ◌<◌, ◌≤◌, Bool, true, false, List, length, drop}
use Rattle.std.specs.Prelude.{Option, Some}
use Rattle.std.specs.Option.{option_map}
use Rattle.game_io.specs.SourceState.{SourceState}
use Rattle.game_io.specs.SinkState.{SinkState}
use Rattle.game_io.specs.NetState.{TakenBack, IsNewLink, taken_back, faults_taken_back}
use Rattle.frame_core.specs.Column.{Column, column_of}
use Rattle.frame_core.specs.Grows.{GrowsTo}
use Rattle.frame_table.specs.declared.pass.Pass.{Pass}
use Rattle.frame_table.specs.declared.table.FrameTable.{FrameTable}
use Rattle.frame_table.specs.Calls.{view_of, standing}
use Rattle.report_line.specs.declared.heard.Heard.{Heard}
use Rattle.report_line.specs.Order.{AreOf}
use Rattle.match_net.specs.declared.limits.TheConstants.{MAX_LINK_BYTES}
use Rattle.match_net.specs.declared.invite.Invite.{Invite}
use Rattle.match_net.specs.PieceTaking.{Took}
use Rattle.match_net.specs.Session.{Session, Makes}
use Rattle.match_net.specs.declared.reader_end.ReaderEnd.{ReaderEnd}
use Rattle.match_net.specs.declared.reader_end.ReaderEnd.TheVariants as reader
use Rattle.match_net.specs.declared.sender_end.SenderEnd.{SenderEnd}
use Rattle.match_net.specs.declared.sender_end.SenderEnd.TheVariants as sender
use Rattle.match_serve.specs.declared.link_end.LinkEnd.{LinkEnd}
use Rattle.match_serve.specs.declared.link_end.LinkEnd.TheVariants as end
use Rattle.match_serve.specs.declared.link_seat.LinkSeat.{LinkSeat}
use Rattle.match_serve.specs.Passes.{IsServePass}
use Rattle.match_serve.specs.Seats.{seat_share, invite_of}
use Rattle.match_serve.specs.Sent.{SendsBy, SendsAllBy, greeting_in}
use Rattle.match_serve.specs.Serve.{EndTells}

-- How a link ended whose client another let leave at this frame, by whether the console kicked it.
abbrev pub left_end_of : ℕ → Bool → LinkEnd
left_end_of at true = end.Kicked at
left_end_of at false = end.Lost

abbrev pub reader_end_of : ReaderEnd → Bool → LinkEnd
reader_end_of reader.Ended kicked = end.Ended
reader_end_of (reader.Refused cause) kicked = end.Refused cause
reader_end_of (reader.LeftAt at) kicked = left_end_of at kicked
reader_end_of reader.Lost kicked = end.Lost
reader_end_of reader.NoMemory kicked = end.Memory

-- How a link ended, by its sessions.
abbrev pub link_end_of : ReaderEnd → SenderEnd → Bool → LinkEnd
link_end_of read sender.Sent kicked = reader_end_of read kicked
link_end_of read sender.Lost kicked = reader_end_of read kicked
link_end_of read sender.NoMemory kicked = end.Memory

-- The passes of a link were joined into a pass: it has their shares, and knows what they knew.
pub record Closes (clients : ℕ) (table : FrameTable) (seat : LinkSeat) (old new : Pass) : Type 0
  where
    pub is : IsServePass clients table new
    pub share : (view_of new).share ≡ (view_of old).share + seat_share seat
    pub made : (c : ℕ) → c < clients →
        (standing new c).made
        ≡ (standing old c).made + (standing seat.reading.pass c).made + (standing seat.sending c).made
    pub mine : (c : ℕ) → c < clients → GrowsTo (standing old c).known (standing new c).known
    pub reads : (c : ℕ) → c < clients →
        GrowsTo (standing seat.reading.pass c).known (standing new c).known
    pub sends : (c : ℕ) → c < clients →
        GrowsTo (standing seat.sending c).known (standing new c).known

-- Link c was handed back: what was taken from it, how many bytes these are, what they made of the
-- client's column, the reports that its end of the queue brought, and what was written to it. The
-- passes of the links have fixed so many departures in its column: what its end tells is so where
-- there is one, or the console kicked the client. Where there is one and the end is that of a client
-- whom the console kicked, the link had failed.
pub record LinkClosed (c : ℕ) (invite : Invite) (columns : List Column) (listed : List Heard)
    (coming : Option (List (List ℕ))) (kicked : Bool) (fixed : ℕ)
    (back : Option (Option TakenBack)) (how : LinkEnd) (count : ℕ) : Type 0 where
  pub input : SourceState
  pub input_after : SourceState
  pub output : SinkState
  pub output_after : SinkState
  pub is_new : IsNewLink (option_map (drop c) coming) input output
  pub is_back : back ≡ Some (Some (taken_back input_after output_after))
  pub bytes : List ℕ
  pub took : Took input.left input_after.left bytes
  pub few : length bytes ≤ MAX_LINK_BYTES
  pub counted : count ≡ length bytes
  pub session : Session
  pub rest : List ℕ
  pub makes : Makes c invite.rules bytes session rest
  pub plays : column_of columns c ≡ record { plays = session.plays; left = true }
  pub ends : (fixed ≡ 0 → kicked ≡ true) →
      EndTells c invite.rules bytes session rest input input_after kicked (faults_taken_back back) how
  pub failed : fixed ≢ 0 → (at : ℕ) → how ≡ end.Kicked at → 0 < faults_taken_back back
  pub reports : listed ≡ session.reports
  pub own : AreOf c listed
  pub sends :
      SendsBy (greeting_in invite.rules bytes) (invite_of invite c) columns output.written
      output_after.written
  pub sends_all : how ≢ end.Memory → faults_taken_back back ≡ 0 →
      SendsAllBy (greeting_in invite.rules bytes) (invite_of invite c) columns output.written
      output_after.written
