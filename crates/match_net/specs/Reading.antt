-- What the reading of a client's link does to its column, and what it takes from the link.
use Rattle.std.specs.Prelude.{◌≡◌, ℕ, ◌+◌, ◌<◌, ◌≤◌, ◌⊎◌, true, List, ◌++◌, length}
use Rattle.std.specs.Prelude.{Option, Some, None, Ok}
use Rattle.std.specs.Option.{option_map}
use Rattle.base.specs.Cause.{Increased}
use Rattle.game_io.specs.SourceState.{SourceState}
use Rattle.game_orders.specs.declared.order.Order.{Order}
use Rattle.order_packets.specs.declared.up.Up.{Up}
use Rattle.order_packets.specs.declared.up.Up.TheVariants.{Orders}
use Rattle.order_packets.specs.PacketReading.{packet_at, up_at}
use Rattle.frame_table.specs.declared.planned.Planned.TheVariants.{Free}
use Rattle.frame_table.specs.declared.view.View.{View}
use Rattle.frame_table.specs.Part.{Part, part_of, OthersStay}
use Rattle.match_net.specs.declared.limits.TheConstants.{MAX_LINK_BYTES}
use Rattle.report_line.specs.declared.heard.Heard.{Heard}
use Rattle.match_net.specs.declared.ending.Ending.TheVariants as ending
use Rattle.match_net.specs.declared.reader_end.ReaderEnd.{ReaderEnd}
use Rattle.match_net.specs.declared.reader_end.ReaderEnd.TheVariants as end
use Rattle.match_net.specs.PieceTaking.{Took, Counts, NoneLeft}
use Rattle.match_net.specs.Session.{Session, Makes, end_at, limited}
use Rattle.match_net.specs.Handling.{IsLate, IsLeftIf, HandlingMeans}
use Rattle.match_net.specs.Ahead.{LooksAtOthers}

-- The pass may add plays to the client's column, which is free.
pub record MayPlay (part : Part) : Type 0 where
  pub planned : part.planned ≡ Free
  pub feeds : part.feeds ≡ true

-- The pass may have seen and learned more of a column. Nothing else has changed: it fixed no
-- departure.
abbrev pub OnlyLearns : Part → Part → Type 0
OnlyLearns old new = new ≡ record old { reach = new.reach; known = new.known; loads = new.loads }

-- Where a session stands: the column has its plays, and its reports were pushed after those that
-- were there before it.
pub record IsStanding (c : ℕ) (session : Session) (first : List Heard) (view : View)
    (pushed : List Heard) : Type 0 where
  pub welcomed : session.welcomed ≡ true
  pub plays : (part_of c view).known.plays ≡ session.plays
  pub reports : pushed ≡ first ++ session.reports

-- What orders for a frame do, and how the reading ends by them.
pub record PutsOrders (c : ℕ) (old new : View) (n : ℕ) (orders : List Order)
    (answer : Option ReaderEnd) : Type 0 where
  pub others : OthersStay c old new
  pub learns : OnlyLearns (part_of c old) (part_of c new)
  pub knows : IsLeftIf (part_of c new).known.left answer
  pub means : (session : Session) → session.plays ≡ (part_of c old).known.plays →
      HandlingMeans c session (Orders n orders)
      (record session { plays = (part_of c new).known.plays }) answer

-- What any packet does, and how the reading ends by it.
pub record HandlesPacket (c : ℕ) (old new : View) (before after : List Heard) (packet : Up)
    (answer : Option ReaderEnd) : Type 0 where
  pub others : OthersStay c old new
  pub learns : OnlyLearns (part_of c old) (part_of c new)
  pub knows : IsLeftIf (part_of c new).known.left answer
  pub means : (session : Session) (first : List Heard) → IsStanding c session first old before →
      (next : Session) × IsStanding c next first new after
      × HandlingMeans c session packet next answer

-- What the pushing of a report says by how the reading ends.
abbrev pub PushMeans : List Heard → List Heard → List Heard → Option ReaderEnd → Type 0
PushMeans old new more None = new ≡ old ++ more
PushMeans old new more (Some end.NoMemory) = new ≡ old
PushMeans old new more (Some end.Ended) = ⊥
PushMeans old new more (Some (end.Refused cause)) = ⊥
PushMeans old new more (Some (end.LeftAt at)) = ⊥
PushMeans old new more (Some end.Lost) = ⊥

-- What the end of a reading says of the bytes that were read, what is left of them, and the link.
-- It is the end of the session that the bytes hold, or the first late packet before that; unless
-- the link failed before so many bytes were taken that this is an end, or memory ran out.
abbrev pub EndMeans :
    ℕ → ℕ → List ℕ → Session → List ℕ → SourceState → SourceState → ReaderEnd → Type 0
EndMeans c here bytes session rest old new end.Ended =
    (end_at c here session (packet_at up_at rest) ≡ Some ending.Bye)
    ⊎ ((end_at c here session (packet_at up_at rest) ≡ Some ending.Over)
    × (length bytes < MAX_LINK_BYTES) × NoneLeft new.left)
EndMeans c here bytes session rest old new (end.Refused cause) =
    option_map (limited (length bytes)) (end_at c here session (packet_at up_at rest))
    ≡ Some (ending.Refused cause)
EndMeans c here bytes session rest old new (end.LeftAt at) =
    (packet : Up) × (more : List ℕ) × (packet_at up_at rest ≡ Ok (Some (packet, more)))
    × IsLate session packet at
EndMeans c here bytes session rest old new end.Lost =
    (end_at c here session (packet_at up_at rest) ≡ Some ending.Over)
    × (length bytes < MAX_LINK_BYTES) × Increased old.faults new.faults
EndMeans c here bytes session rest old new end.NoMemory = Unit {0}

-- What a reading took from the link and counted, and what it made of its bytes: these are the ones
-- that were there before, and then those that it took. The next packet would begin at this place.
pub record ReadsTo (c here : ℕ) (given : List ℕ) (old new : SourceState) (from count : ℕ)
    (before after : View) (first pushed : List Heard) (answer : ReaderEnd) : Type 0 where
  pub session : Session
  pub taken : List ℕ
  pub rest : List ℕ
  pub few : length (given ++ taken) ≤ MAX_LINK_BYTES
  pub took : Took old.left new.left taken
  pub counted : Counts from count taken
  pub later : old.faults ≤ new.faults
  pub makes : Makes c here (given ++ taken) session rest
  pub at : ℕ
  pub place : at + length rest ≡ length (given ++ taken)
  pub standing : IsStanding c session first after pushed
  pub others : LooksAtOthers c before after
  pub learns : OnlyLearns (part_of c before) (part_of c after)
  pub knows : IsLeftIf (part_of c after).known.left (Some answer)
  pub ends : EndMeans c here (given ++ taken) session rest old new answer
