-- What the first packet of a link decides, and what the server has then taken from the link.
use Rattle.std.specs.Prelude.{◌≡◌, ℕ, ◌≤◌, ◌-◌, ◌==◌, if◌then◌else◌, List, ◌++◌, length}
use Rattle.std.specs.Prelude.{Option, Some, None, Ok, Err}
use Rattle.base.specs.Cause.{Increased}
use Rattle.game_io.specs.SourceState.{SourceState}
use Rattle.order_packets.specs.declared.up.Up.{Up}
use Rattle.order_packets.specs.declared.up.Up.TheVariants.{Hello, Orders, Sync, Bye}
use Rattle.order_packets.specs.PacketBytes.{up_bytes}
use Rattle.order_packets.specs.PacketReading.{FirstPacket, packet_at, up_at}
use Rattle.order_packets.specs.Feed.{Fed, unfed, more_fed, answer_of}
use Rattle.order_packets.specs.declared.limits.TheConstants.{VERSION, OTHER_VERSION, OTHER_RULES}
use Rattle.order_packets.specs.declared.limits.TheConstants.{NO_HELLO}
use Rattle.match_net.specs.declared.limits.TheConstants.{MAX_LINK_BYTES, PIECE_BYTES}
use Rattle.match_net.specs.declared.greeting.Greeting.{Greeting}
use Rattle.match_net.specs.declared.greeting.Greeting.TheVariants as greeting
use Rattle.match_net.specs.PieceTaking.{Took, NoneLeft}

-- The answer to a whole first packet, by the server's rules. The version is looked at first.
abbrev pub greeting_of : ℕ → Up → Greeting
greeting_of here (Hello version rules) =
    if version == VERSION
    then (if rules == here then greeting.Welcome else greeting.Refuse OTHER_RULES)
    else greeting.Refuse OTHER_VERSION
greeting_of here (Orders frame orders) = greeting.Refuse NO_HELLO
greeting_of here (Sync frame hash) = greeting.Refuse NO_HELLO
greeting_of here Bye = greeting.Refuse NO_HELLO

-- What the bytes of a link decide by what they begin with: the answer to a whole packet, or the
-- fault in its place. Before either stands there nothing is decided.
abbrev pub decided : ℕ → FirstPacket Up → Option Greeting
decided here (Ok (Some first)) = Some (greeting_of here first.0)
decided here (Ok None) = None
decided here (Err fault) = Some (greeting.Fault fault)

-- What must have been decided for this answer.
abbrev pub decision : Greeting → Option Greeting
decision greeting.Welcome = Some greeting.Welcome
decision (greeting.Refuse code) = Some (greeting.Refuse code)
decision (greeting.Fault fault) = Some (greeting.Fault fault)
decision greeting.Ended = None
decision greeting.Lost = None

-- A feeder that was fed these bytes, and then asked once for a packet.
abbrev pub asked_once : List ℕ → Fed
asked_once bytes = (answer_of (more_fed None unfed bytes) (packet_at up_at bytes)).1

-- The greeting that the server accepts.
abbrev pub hello_bytes : ℕ → List ℕ
hello_bytes here = up_bytes (Hello VERSION here)

-- What an answer leaves for the rest of the link's session: after a Welcome the feeder stands
-- behind the greeting, a refusal has a code, the feeder has answered the fault, and of a link that
-- ended nothing is left.
abbrev pub IsGreeted : Greeting → Fed → Option (List ℕ) → Type 0
IsGreeted greeting.Welcome fed left =
    (fed.at ≡ 13) × (fed.fault ≡ None) × (length fed.rest ≤ MAX_LINK_BYTES - 13)
IsGreeted (greeting.Refuse code) fed left = (1 ≤ code) × (code ≤ 3)
IsGreeted (greeting.Fault fault) fed left = fed.fault ≡ Some fault
IsGreeted greeting.Ended fed left = NoneLeft left
IsGreeted greeting.Lost fed left = Unit {0}

-- The bytes that were taken come in two parts: those before the last piece decide nothing.
pub record UntilDecided (taken : List ℕ) : Type 0 where
  pub before : List ℕ
  pub last : List ℕ
  pub joined : taken ≡ before ++ last
  pub undecided : packet_at up_at before ≡ Ok None
  pub short : length last ≤ PIECE_BYTES

-- A link was greeted: these bytes were taken from it, and the answer is what they decide. After an
-- answer that they do not decide the bytes end there, or the link failed.
pub record Greets (here : ℕ) (old new : SourceState) (fed : Fed) (answer : Greeting) : Type 0 where
  pub taken : List ℕ
  pub few : length taken ≤ MAX_LINK_BYTES
  pub took : Took old.left new.left taken
  pub later : old.faults ≤ new.faults
  pub decides : decided here (packet_at up_at taken) ≡ decision answer
  pub until : UntilDecided taken
  pub fed_so : fed ≡ asked_once taken
  pub welcomed : answer ≡ greeting.Welcome → taken ≡ hello_bytes here ++ fed.rest
  pub ended : answer ≡ greeting.Ended → NoneLeft new.left
  pub lost : answer ≡ greeting.Lost → Increased old.faults new.faults
  pub leaves : IsGreeted answer fed new.left
