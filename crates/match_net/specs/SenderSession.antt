-- What the session of a link's sender leaves.
use Rattle.std.specs.Prelude.{◌≡◌, ℕ, ◌≤◌, List}
use Rattle.base.specs.Cause.{Increased}
use Rattle.base.specs.Written.{Wrote, WrotePrefix}
use Rattle.game_io.specs.SinkState.{SinkState}
use Rattle.frame_core.specs.declared.leaving.Leaving.{Leaving}
use Rattle.order_packets.specs.declared.down.Down.{Down}
use Rattle.order_packets.specs.declared.down.Down.TheVariants as down
use Rattle.order_packets.specs.PacketBytes.{down_bytes}
use Rattle.frame_table.specs.declared.view.View.{View}
use Rattle.frame_table.specs.Calls.{LeavesSo}
use Rattle.match_net.specs.declared.invite.Invite.{Invite}
use Rattle.match_net.specs.declared.greeting.Greeting.{Greeting}
use Rattle.match_net.specs.declared.greeting.Greeting.TheVariants as greeting
use Rattle.match_net.specs.declared.sender_end.SenderEnd.{SenderEnd}
use Rattle.match_net.specs.declared.sender_end.SenderEnd.TheVariants as sent
use Rattle.match_net.specs.Sending.{SendsTo}

-- The packet that tells a client which one it is, and in which match.
abbrev pub welcome_of : Invite → Down
welcome_of invite = down.Welcome invite.client invite.clients invite.lag invite.seed

-- How the sending of a refusal ends: it was written; or the link failed within it; or memory ran out
-- before it.
abbrev pub RefusalMeans : SinkState → SinkState → List ℕ → SenderEnd → Type 0
RefusalMeans old new bytes sent.Sent = Wrote old.written new.written bytes
RefusalMeans old new bytes sent.Lost =
    WrotePrefix old.written new.written bytes × Increased old.faults new.faults
RefusalMeans old new bytes sent.NoMemory = new.written ≡ old.written

pub record SendsRefusal (code : ℕ) (old new : SinkState) (answer : SenderEnd) : Type 0 where
  pub later : old.faults ≤ new.faults
  pub means : RefusalMeans old new (down_bytes (down.Refused code)) answer

-- Nothing was sent, and that is all that was to be.
pub record SendsNothing (old new : SinkState) (answer : SenderEnd) : Type 0 where
  pub untouched : new ≡ old
  pub is : answer ≡ sent.Sent

-- What was sent, by the greeting, and what the pass has seen by then.
abbrev pub SentBy :
    Greeting → Invite → SinkState → SinkState → View → View → SenderEnd → Type 0
SentBy greeting.Welcome invite old new before mid answer =
    SendsTo invite.clients (down_bytes (welcome_of invite)) old new before mid answer
SentBy (greeting.Refuse code) invite old new before mid answer =
    SendsRefusal code old new answer × (mid ≡ before)
SentBy (greeting.Fault fault) invite old new before mid answer =
    SendsNothing old new answer × (mid ≡ before)
SentBy greeting.Ended invite old new before mid answer =
    SendsNothing old new answer × (mid ≡ before)
SentBy greeting.Lost invite old new before mid answer =
    SendsNothing old new answer × (mid ≡ before)

-- A sender that is lost or out of memory lets its client leave. Any other lets no client leave.
abbrev pub LeavesIf : ℕ → View → View → SenderEnd → Type 0
LeavesIf c mid after sent.Sent = after ≡ mid
LeavesIf c mid after sent.Lost = (answer : Leaving) × LeavesSo c mid after answer
LeavesIf c mid after sent.NoMemory = (answer : Leaving) × LeavesSo c mid after answer

-- A session: what it sent, and then whether it let its client leave.
pub record SendsAs (greeting : Greeting) (invite : Invite) (old new : SinkState)
    (before after : View) (answer : SenderEnd) : Type 0 where
  pub mid : View
  pub sends : SentBy greeting invite old new before mid answer
  pub leaves : LeavesIf invite.client mid after answer
