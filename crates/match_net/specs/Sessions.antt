-- What the session of a link's reader leaves.
use Rattle.std.specs.Prelude.{◌≡◌, ℕ, ◌+◌, ◌≤◌, ◌⊎◌, true, List, [], ◌++◌, length}
use Rattle.game_io.specs.SourceState.{SourceState}
use Rattle.game_orders.specs.declared.order.Order.{Order}
use Rattle.frame_core.specs.declared.leaving.Leaving.{Leaving}
use Rattle.frame_core.specs.declared.leaving.Leaving.TheVariants as leaving
use Rattle.frame_table.specs.declared.view.View.{View}
use Rattle.frame_table.specs.Part.{part_of}
use Rattle.match_net.specs.declared.limits.TheConstants.{MAX_LINK_BYTES}
use Rattle.report_line.specs.declared.heard.Heard.{Heard}
use Rattle.match_net.specs.declared.greeting.Greeting.{Greeting}
use Rattle.match_net.specs.declared.greeting.Greeting.TheVariants as greeting
use Rattle.match_net.specs.declared.read_cause.ReadCause.TheVariants as cause
use Rattle.match_net.specs.declared.ending.Ending.{Ending}
use Rattle.match_net.specs.declared.ending.Ending.TheVariants as ending
use Rattle.match_net.specs.declared.reader_end.ReaderEnd.{ReaderEnd}
use Rattle.match_net.specs.declared.reader_end.ReaderEnd.TheVariants as end
use Rattle.match_net.specs.PieceTaking.{Took, Counts}
use Rattle.match_net.specs.Greeting.{hello_bytes}
use Rattle.match_net.specs.Session.{Session, Makes, IsSession, cause_of}
use Rattle.match_net.specs.Ahead.{LooksAtOthers}
use Rattle.match_net.specs.Reading.{EndMeans, ReadsTo}

-- The client has left after these plays, and the pass knows it. Of the other columns it may have seen
-- more; it has changed none.
pub record LeavesColumn (c : ℕ) (plays : List (List Order)) (before after : View) : Type 0 where
  pub others : LooksAtOthers c before after
  pub part : part_of c after ≡
      record (part_of c before) {
        reach = record { plays = length plays; left = true };
        known = record { plays = plays; left = true };
        loads = (part_of c after).loads;
        made = (part_of c after).made;
      }

-- The session fixed the departure, or another had done so at this frame.
abbrev pub FixedIt : ℕ → View → View → Type 0
FixedIt c before after = (part_of c after).made ≡ (part_of c before).made + 1

pub record FoundIt (c : ℕ) (plays : List (List Order)) (before after : View) (at : ℕ) : Type 0 where
  pub none_made : (part_of c after).made ≡ (part_of c before).made
  pub at_end : at ≡ length plays

-- How a session ends after a Welcome. `Ended` and `LeftAt` both may come where the bytes end or say
-- farewell, by who fixed the departure; `LeftAt` comes also by orders for its frame or a later one,
-- before any end of the bytes.
abbrev pub SessionEnds :
    ℕ → ℕ → List ℕ → Session → List ℕ → SourceState → SourceState → View → View → ReaderEnd → Type 0
SessionEnds c here bytes session rest old new before after end.Ended =
    EndMeans c here bytes session rest old new end.Ended × FixedIt c before after
SessionEnds c here bytes session rest old new before after (end.Refused cause) =
    EndMeans c here bytes session rest old new (end.Refused cause)
SessionEnds c here bytes session rest old new before after (end.LeftAt at) =
    FoundIt c session.plays before after at
    × (EndMeans c here bytes session rest old new end.Ended
    ⊎ EndMeans c here bytes session rest old new (end.LeftAt at))
SessionEnds c here bytes session rest old new before after end.Lost =
    EndMeans c here bytes session rest old new end.Lost
SessionEnds c here bytes session rest old new before after end.NoMemory = Unit {0}

-- A session after a Welcome. Its bytes are those that were given, the greeting and what the feeder
-- held, and then those that it took. Its plays and reports are those that the bytes put before it
-- ended, and this is the place of the end.
pub record ReadsLink (c here : ℕ) (given : List ℕ) (old new : SourceState) (before after : View)
    (first pushed : List Heard) (answer : ReaderEnd) : Type 0 where
  pub session : Session
  pub taken : List ℕ
  pub rest : List ℕ
  pub few : length (given ++ taken) ≤ MAX_LINK_BYTES
  pub took : Took old.left new.left taken
  pub later : old.faults ≤ new.faults
  pub makes : Makes c here (given ++ taken) session rest
  pub at : ℕ
  pub place : at + length rest ≡ length (given ++ taken)
  pub reports : pushed ≡ first ++ session.reports
  pub column : LeavesColumn c session.plays before after
  pub ends : SessionEnds c here (given ++ taken) session rest old new before after answer

-- How a session ends that takes no bytes, by its greeting.
abbrev pub GreetingEnds : Greeting → ℕ → View → View → ReaderEnd → Type 0
GreetingEnds greeting.Welcome c before after answer = ⊥
GreetingEnds (greeting.Refuse code) c before after answer = answer ≡ end.Refused (cause_of code)
GreetingEnds (greeting.Fault fault) c before after answer =
    answer ≡ end.Refused (cause.Feed fault)
GreetingEnds greeting.Ended c before after answer =
    ((answer ≡ end.Ended) × FixedIt c before after)
    ⊎ ((at : ℕ) × (answer ≡ end.LeftAt at) × FoundIt c [] before after at)
GreetingEnds greeting.Lost c before after answer = answer ≡ end.Lost

pub record ReadsNothing (greeting : Greeting) (c : ℕ) (old new : SourceState) (before after : View)
    (first pushed : List Heard) (answer : ReaderEnd) : Type 0 where
  pub untouched : new ≡ old
  pub reports : pushed ≡ first
  pub column : LeavesColumn c [] before after
  pub ends : GreetingEnds greeting c before after answer

-- A session, by its greeting. `held` is what the feeder held as it began.
abbrev pub ReadsAs :
    Greeting → ℕ → ℕ → List ℕ → SourceState → SourceState → View → View → List Heard → List Heard →
    ReaderEnd → Type 0
ReadsAs greeting.Welcome c here held old new before after first pushed answer =
    ReadsLink c here (hello_bytes here ++ held) old new before after first pushed answer
ReadsAs (greeting.Refuse code) c here held old new before after first pushed answer =
    ReadsNothing (greeting.Refuse code) c old new before after first pushed answer
ReadsAs (greeting.Fault fault) c here held old new before after first pushed answer =
    ReadsNothing (greeting.Fault fault) c old new before after first pushed answer
ReadsAs greeting.Ended c here held old new before after first pushed answer =
    ReadsNothing greeting.Ended c old new before after first pushed answer
ReadsAs greeting.Lost c here held old new before after first pushed answer =
    ReadsNothing greeting.Lost c old new before after first pushed answer

-- The same, and how the count of the bytes that are taken from the link rose: by the number of
-- those that the session took, which is 0 after another greeting than Welcome.
abbrev pub CountsAs :
    Greeting → ℕ → ℕ → List ℕ → SourceState → SourceState → ℕ → ℕ → View → View → List Heard →
    List Heard → ReaderEnd → Type 0
CountsAs greeting.Welcome c here held old new from count before after first pushed answer =
    (reads : ReadsLink c here (hello_bytes here ++ held) old new before after first pushed answer)
    × Counts from count reads.taken
CountsAs (greeting.Refuse code) c here held old new from count before after first pushed answer =
    ReadsNothing (greeting.Refuse code) c old new before after first pushed answer
    × (count ≡ from)
CountsAs (greeting.Fault fault) c here held old new from count before after first pushed answer =
    ReadsNothing (greeting.Fault fault) c old new before after first pushed answer
    × (count ≡ from)
CountsAs greeting.Ended c here held old new from count before after first pushed answer =
    ReadsNothing greeting.Ended c old new before after first pushed answer × (count ≡ from)
CountsAs greeting.Lost c here held old new from count before after first pushed answer =
    ReadsNothing greeting.Lost c old new before after first pushed answer × (count ≡ from)

-- What a greeting other than Welcome makes of a session's end.
abbrev pub end_of_greeting : Greeting → ReaderEnd
end_of_greeting greeting.Welcome = end.Ended
end_of_greeting (greeting.Refuse code) = end.Refused (cause_of code)
end_of_greeting (greeting.Fault fault) = end.Refused (cause.Feed fault)
end_of_greeting greeting.Ended = end.Ended
end_of_greeting greeting.Lost = end.Lost

-- A session before its client is let go.
pub record Untouched (old new : SourceState) (from count : ℕ) (before mid : View)
    (first pushed : List Heard) : Type 0 where
  pub link : new ≡ old
  pub counted : count ≡ from
  pub view : mid ≡ before
  pub reports : pushed ≡ first

abbrev pub ReadBy :
    Greeting → ℕ → ℕ → List ℕ → SourceState → SourceState → ℕ → ℕ → View → View → List Heard →
    List Heard → ReaderEnd → Type 0
ReadBy greeting.Welcome c here held old new from count before mid first pushed answer =
    ReadsTo c here (hello_bytes here ++ held) old new from count before mid first pushed answer
ReadBy (greeting.Refuse code) c here held old new from count before mid first pushed answer =
    Untouched old new from count before mid first pushed
    × (answer ≡ end_of_greeting (greeting.Refuse code))
ReadBy (greeting.Fault fault) c here held old new from count before mid first pushed answer =
    Untouched old new from count before mid first pushed
    × (answer ≡ end_of_greeting (greeting.Fault fault))
ReadBy greeting.Ended c here held old new from count before mid first pushed answer =
    Untouched old new from count before mid first pushed × (answer ≡ end.Ended)
ReadBy greeting.Lost c here held old new from count before mid first pushed answer =
    Untouched old new from count before mid first pushed × (answer ≡ end.Lost)

-- The answer of a session, by how the reading ended and by who let the client leave.
abbrev pub after_leaving : ReaderEnd → Leaving → ReaderEnd
after_leaving end.Ended (leaving.Already at) = end.LeftAt at
after_leaving end.Ended (leaving.Fixed at) = end.Ended
after_leaving (end.Refused cause) leaving = end.Refused cause
after_leaving (end.LeftAt at) leaving = end.LeftAt at
after_leaving end.Lost leaving = end.Lost
after_leaving end.NoMemory leaving = end.NoMemory

-- How a client's bytes ended, of a session that they ended themselves.
abbrev pub own_end : Ending → ReaderEnd
own_end ending.Bye = end.Ended
own_end ending.Over = end.Ended
own_end (ending.Refused cause) = end.Refused cause

-- The session of all bytes of a link, and an end of theirs that is answered so.
pub record IsWholeSession (c here : ℕ) (bytes : List ℕ) (session : Session) (at : ℕ)
    (answer : ReaderEnd) : Type 0 where
  pub ending : Ending
  pub answered : answer ≡ own_end ending
  pub is : IsSession c here bytes session ending at
