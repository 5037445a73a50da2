-- A reading that goes on.
use Rattle.std.specs.Prelude.{◌≡◌, ℕ, ◌+◌, ◌<◌, ◌≤◌, List, [], ◌++◌, length, Option, Some}
use Rattle.std.specs.Prelude.{None, Ok}
use Rattle.base.specs.Cause.{Increased}
use Rattle.game_io.specs.SourceState.{SourceState}
use Rattle.order_packets.specs.declared.up.Up.{Up}
use Rattle.order_packets.specs.PacketBytes.{up_payload}
use Rattle.order_packets.specs.PacketReading.{up_at}
use Rattle.order_packets.specs.Feed.{Fed, more_fed, HasGiven}
use Rattle.frame_table.specs.declared.view.View.{View}
use Rattle.frame_table.specs.Part.{part_of}
use Rattle.match_net.specs.declared.limits.TheConstants.{MAX_LINK_BYTES}
use Rattle.report_line.specs.declared.heard.Heard.{Heard}
use Rattle.match_net.specs.declared.read_cause.ReadCause.TheVariants as cause
use Rattle.match_net.specs.declared.reader_end.ReaderEnd.{ReaderEnd}
use Rattle.match_net.specs.declared.reader_end.ReaderEnd.TheVariants as end
use Rattle.match_net.specs.PieceTaking.{Took, Counts, NoneLeft}
use Rattle.match_net.specs.Session.{Session, no_session, after_all}
use Rattle.match_net.specs.Ahead.{LooksAtOthers}
use Rattle.match_net.specs.Reading.{OnlyLearns, IsStanding, ReadsTo}

-- These bytes were there before and taken, the feeder has given these packets of them, and the
-- session stands after these. The taken ones were counted, from the first of these counts on.
pub record ReadSoFar (c here : ℕ) (given : List ℕ) (old now : SourceState) (from count : ℕ)
    (before view : View) (first pushed : List Heard) (fed : Fed) : Type 0 where
  pub session : Session
  pub packets : List Up
  pub taken : List ℕ
  pub few : length (given ++ taken) ≤ MAX_LINK_BYTES
  pub took : Took old.left now.left taken
  pub counted : Counts from count taken
  pub later : old.faults ≤ now.faults
  pub stream : HasGiven up_at up_payload (given ++ taken) packets fed
  pub whole : fed.fault ≡ None
  pub follows : after_all c here no_session packets ≡ Ok session
  pub standing : IsStanding c session first view pushed
  pub others : LooksAtOthers c before view
  pub learns : OnlyLearns (part_of c before) (part_of c view)

-- After one turn more the reading goes on, or has ended.
abbrev pub AfterTurn :
    ℕ → ℕ → List ℕ → SourceState → SourceState → ℕ → ℕ → View → View → List Heard → List Heard →
    Fed → Option ReaderEnd → Type 0
AfterTurn c here given old now from count before view first pushed fed None =
    ReadSoFar c here given old now from count before view first pushed fed
AfterTurn c here given old now from count before view first pushed fed (Some end) =
    ReadsTo c here given old now from count before view first pushed end

-- What the answer says of the bytes that were taken.
abbrev pub MoreMeans :
    SourceState → SourceState → Fed → Fed → List ℕ → Option ReaderEnd → Type 0
MoreMeans old new before after taken None = after ≡ more_fed before.fault before taken
MoreMeans old new before after taken (Some end.Ended) =
    (taken ≡ []) × (before.at + length before.rest < MAX_LINK_BYTES) × NoneLeft new.left
MoreMeans old new before after taken (Some (end.Refused why)) =
    (taken ≡ []) × (before.at + length before.rest ≡ MAX_LINK_BYTES)
    × (why ≡ cause.SessionTooLong)
MoreMeans old new before after taken (Some (end.LeftAt at)) = ⊥
MoreMeans old new before after taken (Some end.Lost) =
    (taken ≡ []) × (before.at + length before.rest < MAX_LINK_BYTES)
    × Increased old.faults new.faults
MoreMeans old new before after taken (Some end.NoMemory) = Unit {0}

-- What the taking of more bytes leaves: the feeder was fed a piece, at least one byte; or the reading
-- ends, since the bytes do, since there were too many, since the link failed or memory ran out. Of
-- the last the piece is lost, and counted.
pub record TakesMore (old new : SourceState) (from count : ℕ) (before after : Fed)
    (answer : Option ReaderEnd) : Type 0 where
  pub taken : List ℕ
  pub took : Took old.left new.left taken
  pub counted : Counts from count taken
  pub few : length before.rest + before.at + length taken ≤ MAX_LINK_BYTES
  pub later : old.faults ≤ new.faults
  pub fed : MoreMeans old new before after taken answer
