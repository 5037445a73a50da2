-- What serves a link, before it does and since.
use Rattle.std.specs.Prelude.{◌≡◌, ℕ, ◌+◌, ◌<◌, ◌≤◌, ◌⊎◌, List, [], ◌∷◌, length, drop}
use Rattle.std.specs.Prelude.{Option}
use Rattle.std.specs.Option.{option_map}
use Rattle.game_io.specs.NetState.{IsNewLink}
use Rattle.game_io.specs.SourceState.{SourceState}
use Rattle.game_io.specs.SinkState.{SinkState}
use Rattle.order_packets.specs.Feed.{unfed}
use Rattle.frame_table.specs.declared.planned.Planned.TheVariants.{Free}
use Rattle.frame_table.specs.declared.view.View.{View}
use Rattle.frame_table.specs.declared.pass.Pass.{Pass}
use Rattle.frame_table.specs.declared.table.FrameTable.{FrameTable}
use Rattle.frame_table.specs.Calls.{plan_of, view_of, standing, IsPassOf}
use Rattle.report_line.specs.declared.report_receiver.ReportReceiver.{ReportReceiver}
use Rattle.report_line.specs.Reports.{pushed, queue_of, queue_heard, number_of, StaysOf}
use Rattle.match_net.specs.declared.limits.TheConstants.{MAX_LINK_BYTES}
use Rattle.match_net.specs.declared.invite.Invite.{Invite}
use Rattle.match_net.specs.declared.greeting.Greeting.{Greeting}
use Rattle.match_net.specs.declared.reader_end.ReaderEnd.{ReaderEnd}
use Rattle.match_net.specs.declared.reader_end.ReaderEnd.TheVariants as reader
use Rattle.match_net.specs.declared.sender_end.SenderEnd.{SenderEnd}
use Rattle.match_net.specs.declared.sender_end.SenderEnd.TheVariants as sender
use Rattle.match_net.specs.Greeting.{IsGreeted}
use Rattle.match_net.specs.Reading.{MayPlay}
use Rattle.match_net.specs.Sessions.{CountsAs, ReadsLink}
use Rattle.match_net.specs.SenderSession.{SendsAs}
use Rattle.match_serve.specs.declared.link_seat.ReadSeat.{ReadSeat}
use Rattle.match_serve.specs.declared.link_seat.LinkSeat.{LinkSeat}
use Rattle.match_serve.specs.Passes.{IsServePass, FixedNone}
use Rattle.match_serve.specs.Sent.{greeting_in}

-- The invite of client c.
abbrev pub invite_of : Invite → ℕ → Invite
invite_of invite c = record invite { client = c }

-- A link that is not served yet. Its reading pass feeds its client's column, in which there is
-- nothing yet.
pub record IsNewSeat (clients : ℕ) (table : FrameTable) (seat : LinkSeat) : Type 0 where
  pub client : seat.invite.client < clients
  pub clients_are : seat.invite.clients ≡ clients
  pub reads : IsServePass clients table seat.reading.pass
  pub may : MayPlay (standing seat.reading.pass seat.invite.client)
  pub unplayed : (standing seat.reading.pass seat.invite.client).known.plays ≡ []
  pub fixed_none : FixedNone (view_of seat.reading.pass)
  pub sends : IsServePass clients table seat.sending
  pub sender_fixed_none : FixedNone (view_of seat.sending)
  pub feeder : seat.reading.feeder ≡ unfed
  pub unpushed : pushed seat.reading.reports ≡ []
  pub none_taken : seat.reading.taken ≡ 0

-- What the reading of a greeted link asks for.
pub record MayRead (table : FrameTable) (invite : Invite) (greeting : Greeting) (seat : ReadSeat)
    (link : SourceState) : Type 0 where
  pub pass : IsPassOf table seat.pass
  pub client : invite.client < length (plan_of table)
  pub may : MayPlay (standing seat.pass invite.client)
  pub unplayed : (standing seat.pass invite.client).known.plays ≡ []
  pub greeted : IsGreeted greeting seat.feeder link.left
  pub few : seat.taken ≤ MAX_LINK_BYTES

-- What it leaves.
pub record HasRead (table : FrameTable) (invite : Invite) (greeting : Greeting) (old new : ReadSeat)
    (link link_after : SourceState) (answer : ReaderEnd) : Type 0 where
  pub pass : IsPassOf table new.pass
  pub reads :
      CountsAs greeting invite.client invite.rules old.feeder.rest link link_after old.taken
      new.taken (view_of old.pass) (view_of new.pass) (pushed old.reports) (pushed new.reports)
      answer
  pub reports : StaysOf invite.client old.reports new.reports

-- What the sending to a greeted link asks for.
pub record MaySend (table : FrameTable) (invite : Invite) (pass : Pass) : Type 0 where
  pub is : IsPassOf table pass
  pub clients : invite.clients ≡ length (plan_of table)
  pub client : invite.client < invite.clients
  pub free : (standing pass invite.client).planned ≡ Free

-- What it leaves.
pub record HasSent (table : FrameTable) (invite : Invite) (greeting : Greeting) (old new : Pass)
    (link link_after : SinkState) (answer : SenderEnd) : Type 0 where
  pub is : IsPassOf table new
  pub sends : SendsAs greeting invite link link_after (view_of old) (view_of new) answer

-- What was sent by the greeting that these bytes decide; nothing, where memory ran out for the
-- greeting.
abbrev pub SendsSo :
    Invite → List ℕ → SinkState → SinkState → View → View → ReaderEnd → SenderEnd → Type 0
SendsSo invite bytes old new before after read answer =
    SendsAs (greeting_in invite.rules bytes) invite old new before after answer
    ⊎ ((new ≡ old) × (after ≡ before) × (read ≡ reader.NoMemory) × (answer ≡ sender.Sent))

-- A link was served: what its two sessions did, over all bytes that were taken from it, and how many
-- these are.
pub record ServesSeat (clients : ℕ) (table : FrameTable) (old new : LinkSeat)
    (input input_after : SourceState) (output output_after : SinkState) : Type 0 where
  pub told : new.invite ≡ old.invite
  pub reading_pass : IsServePass clients table new.reading.pass
  pub reading_share : (view_of new.reading.pass).share ≡ (view_of old.reading.pass).share
  pub sending_pass : IsServePass clients table new.sending
  pub sending_share : (view_of new.sending).share ≡ (view_of old.sending).share
  pub reports : StaysOf old.invite.client old.reading.reports new.reading.reports
  pub reads :
      ReadsLink old.invite.client old.invite.rules [] input input_after (view_of old.reading.pass)
      (view_of new.reading.pass) [] (pushed new.reading.reports) new.ends.reader
  pub counted : new.reading.taken ≡ length reads.taken
  pub sends :
      SendsSo old.invite reads.taken output output_after (view_of old.sending) (view_of new.sending)
      new.ends.reader new.ends.sender

-- The shares of the passes of a link.
abbrev pub seat_share : LinkSeat → ℕ
seat_share seat = (view_of seat.reading.pass).share + (view_of seat.sending).share

-- How many departures the passes of a link have fixed in column c.
abbrev pub made_by : LinkSeat → ℕ → ℕ
made_by seat c = (standing seat.reading.pass c).made + (standing seat.sending c).made

-- A link that is served: what it is served with, and its halves.
pub record PieceState : Type 0 where
  pub seat : LinkSeat
  pub input : SourceState
  pub output : SinkState

-- The link of client c before it is served, as the net gave it.
pub record IsNewPiece (clients : ℕ) (table : FrameTable) (invite : Invite) (receiver : ReportReceiver)
    (coming : Option (List (List ℕ))) (c : ℕ) (piece : PieceState) : Type 0 where
  pub seat : IsNewSeat clients table piece.seat
  pub told : piece.seat.invite ≡ invite_of invite c
  pub queue : queue_of piece.seat.reading.reports ≡ queue_heard receiver
  pub number : number_of piece.seat.reading.reports ≡ c
  pub link : IsNewLink (option_map (drop c) coming) piece.input piece.output

-- These are the links of client c and the next ones.
abbrev pub AreNewPieces :
    ℕ → FrameTable → Invite → ReportReceiver → Option (List (List ℕ)) → ℕ → List PieceState → Type 0
AreNewPieces clients table invite receiver coming c [] = Unit {0}
AreNewPieces clients table invite receiver coming c (piece ∷ pieces) =
    IsNewPiece clients table invite receiver coming c piece
    × AreNewPieces clients table invite receiver coming (c + 1) pieces

-- Each of the links was served.
abbrev pub AreServed : FrameTable → List PieceState → List PieceState → Type 0
AreServed table [] [] = Unit {0}
AreServed table [] (new ∷ news) = ⊥
AreServed table (old ∷ olds) [] = ⊥
AreServed table (old ∷ olds) (new ∷ news) =
    ServesSeat old.seat.invite.clients table old.seat new.seat old.input new.input old.output new.output
    × AreServed table olds news

-- The link of client c since it was served.
pub record IsServedLink (clients : ℕ) (table : FrameTable) (invite : Invite) (receiver : ReportReceiver)
    (coming : Option (List (List ℕ))) (c : ℕ) (piece : PieceState) : Type 0 where
  pub before : PieceState
  pub is_new : IsNewPiece clients table invite receiver coming c before
  pub serves :
      ServesSeat clients table before.seat piece.seat before.input piece.input before.output piece.output

abbrev pub AreServedLinks :
    ℕ → FrameTable → Invite → ReportReceiver → Option (List (List ℕ)) → ℕ → List PieceState → Type 0
AreServedLinks clients table invite receiver coming c [] = Unit {0}
AreServedLinks clients table invite receiver coming c (piece ∷ pieces) =
    IsServedLink clients table invite receiver coming c piece
    × AreServedLinks clients table invite receiver coming (c + 1) pieces

abbrev pub shares_of : List PieceState → ℕ
shares_of [] = 0
shares_of (piece ∷ pieces) = seat_share piece.seat + shares_of pieces

abbrev pub made_in : List PieceState → ℕ → ℕ
made_in [] c = 0
made_in (piece ∷ pieces) c = made_by piece.seat c + made_in pieces c
