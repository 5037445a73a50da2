-- What a link was sent in all, by its greeting and by the columns as they ended.
use Rattle.std.specs.Prelude.{◌≡◌, ℕ, ◌<◌, ◌≤◌, List, [], ◌++◌, length, Option, Some, None}
use Rattle.base.specs.Written.{Wrote, WrotePrefix}
use Rattle.frame_core.specs.Column.{Column, column_of}
use Rattle.order_packets.specs.declared.down.Down.TheVariants as down
use Rattle.order_packets.specs.PacketBytes.{down_bytes}
use Rattle.order_packets.specs.PacketReading.{packet_at, up_at}
use Rattle.match_net.specs.declared.invite.Invite.{Invite}
use Rattle.match_net.specs.declared.greeting.Greeting.{Greeting}
use Rattle.match_net.specs.declared.greeting.Greeting.TheVariants as greeting
use Rattle.match_net.specs.Greeting.{decided}
use Rattle.match_net.specs.Sending.{At, entries_bytes, of_client, entries_of, SentColumn}
use Rattle.match_net.specs.SenderSession.{welcome_of}

-- A prefix of the welcome and then of entries was written. Of each client they are the first entries
-- of its column, in order and without a gap.
pub record SendsFirst (welcome : List ℕ) (columns : List Column) (old new : Option (List ℕ)) :
    Type 0 where
  pub entries : List At
  pub wrote : WrotePrefix old new (welcome ++ entries_bytes entries)
  pub each : (c : ℕ) → c < length columns → SentColumn c entries (column_of columns c)
  pub no_others : (c : ℕ) → length columns ≤ c → of_client c entries ≡ []

-- The welcome and then entries were written. Of each client they are all of its column.
pub record SendsAll (welcome : List ℕ) (columns : List Column) (old new : Option (List ℕ)) :
    Type 0 where
  pub entries : List At
  pub wrote : Wrote old new (welcome ++ entries_bytes entries)
  pub each : (c : ℕ) → c < length columns →
      of_client c entries ≡ entries_of (column_of columns c)
  pub no_others : (c : ℕ) → length columns ≤ c → of_client c entries ≡ []

-- What was written to a link is of what its greeting is answered.
abbrev pub SendsBy :
    Greeting → Invite → List Column → Option (List ℕ) → Option (List ℕ) → Type 0
SendsBy greeting.Welcome invite columns old new =
    SendsFirst (down_bytes (welcome_of invite)) columns old new
SendsBy (greeting.Refuse code) invite columns old new =
    WrotePrefix old new (down_bytes (down.Refused code))
SendsBy (greeting.Fault fault) invite columns old new = new ≡ old
SendsBy greeting.Ended invite columns old new = new ≡ old
SendsBy greeting.Lost invite columns old new = new ≡ old

-- It is all of that.
abbrev pub SendsAllBy :
    Greeting → Invite → List Column → Option (List ℕ) → Option (List ℕ) → Type 0
SendsAllBy greeting.Welcome invite columns old new =
    SendsAll (down_bytes (welcome_of invite)) columns old new
SendsAllBy (greeting.Refuse code) invite columns old new =
    Wrote old new (down_bytes (down.Refused code))
SendsAllBy (greeting.Fault fault) invite columns old new = new ≡ old
SendsAllBy greeting.Ended invite columns old new = new ≡ old
SendsAllBy greeting.Lost invite columns old new = new ≡ old

-- The greeting of a link whose bytes decide this, or nothing.
abbrev pub greeting_by : Option Greeting → Greeting
greeting_by (Some decided) = decided
greeting_by None = greeting.Ended

-- How the link is greeted whose bytes begin so.
abbrev pub greeting_in : ℕ → List ℕ → Greeting
greeting_in here bytes = greeting_by (decided here (packet_at up_at bytes))
