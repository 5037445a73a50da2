-- What the bytes of a client's link say, from the first one on: the plays that they put, the
-- reports that they hold, and how they end.
use Rattle.std.specs.Prelude.{◌≡◌, ℕ, ◌+◌, ◌==◌, nat_lt, if◌then◌else◌, Bool, true, false, List, []}
use Rattle.std.specs.Prelude.{◌∷◌, ◌++◌, length, take, Option, Some, None, Result, Ok, Err}
use Rattle.std.specs.Option.{option_map}
use Rattle.base.specs.Steps.{◌>>=◌}
use Rattle.game_orders.specs.declared.order.Order.{Order}
use Rattle.game_orders.specs.declared.entry.Entry.TheVariants.{Play}
use Rattle.frame_core.specs.Column.{Column, put_answer}
use Rattle.frame_core.specs.declared.put.Put.{Put}
use Rattle.frame_core.specs.declared.put.Put.TheVariants as put
use Rattle.order_packets.specs.declared.up.Up.{Up}
use Rattle.order_packets.specs.declared.up.Up.TheVariants.{Hello, Orders, Sync, Bye}
use Rattle.order_packets.specs.PacketReading.{FirstPacket, packet_at, up_at}
use Rattle.order_packets.specs.Feed.{ReadsAll}
use Rattle.order_packets.specs.declared.limits.TheConstants.{OTHER_VERSION}
use Rattle.match_net.specs.declared.limits.TheConstants.{MAX_LINK_BYTES}
use Rattle.order_packets.specs.declared.limits.TheConstants.{OTHER_RULES}
use Rattle.report_line.specs.declared.heard.Heard.{Heard}
use Rattle.match_net.specs.declared.greeting.Greeting.{Greeting}
use Rattle.match_net.specs.declared.greeting.Greeting.TheVariants as greeting
use Rattle.match_net.specs.declared.read_cause.ReadCause.{ReadCause}
use Rattle.match_net.specs.declared.read_cause.ReadCause.TheVariants as cause
use Rattle.match_net.specs.declared.ending.Ending.{Ending}
use Rattle.match_net.specs.declared.ending.Ending.TheVariants as ending
use Rattle.match_net.specs.Greeting.{greeting_of}

-- What a client's packets have made so far: whether it was welcomed, its plays frame by frame, and
-- its reports in the order in which they came.
pub record Session : Type 0 where
  pub welcomed : Bool
  pub plays : List (List Order)
  pub reports : List Heard

-- Before the first packet.
abbrev pub no_session : Session
no_session = record { welcomed = false; plays = []; reports = [] }

-- The client's column as its own packets make it. They alone never let it end.
abbrev pub own_column : Session → Column
own_column session = record { plays = session.plays; left = false }

-- The session after one packet, or how it ends there.
abbrev pub After : Type 0
After = Result Session Ending

-- Why a client is not in the match, by the code that it is sent.
abbrev pub cause_of : ℕ → ReadCause
cause_of code =
    if code == OTHER_VERSION then cause.Version
    else (if code == OTHER_RULES then cause.OtherRules else cause.NoHello)

-- The first packet: only a greeting that is welcomed goes on.
abbrev pub after_greeting : Session → Greeting → After
after_greeting session greeting.Welcome = Ok (record session { welcomed = true })
after_greeting session (greeting.Refuse code) = Err (ending.Refused (cause_of code))
after_greeting session (greeting.Fault fault) = Err (ending.Refused (cause.Feed fault))
after_greeting session greeting.Ended = Err ending.Over
after_greeting session greeting.Lost = Err ending.Over

-- Orders by the answer of the column: a new play is added, one that came before passes, and any
-- other ends the session. (A client that has not left is answered nothing else.)
abbrev pub after_put : Session → List Order → Put → After
after_put session orders put.Fixed = Ok (record session { plays = session.plays ++ orders ∷ [] })
after_put session orders put.Repeat = Ok session
after_put session orders (put.Conflict kept) = Err (ending.Refused cause.Conflict)
after_put session orders (put.Left at) = Ok session
after_put session orders (put.Ahead plays) = Err (ending.Refused cause.Ahead)
after_put session orders put.Full = Err (ending.Refused cause.Full)

-- A packet of a client that was welcomed.
abbrev pub after_up : ℕ → Session → Up → After
after_up client session (Hello version rules) = Err (ending.Refused cause.SecondHello)
after_up client session (Orders frame orders) =
    after_put session orders (put_answer (own_column session) frame (Play orders))
after_up client session (Sync frame hash) =
    Ok (record session {
      reports = session.reports ++ record { client = client; frame = frame; hash = hash } ∷ [];
    })
after_up client session Bye = Err ending.Bye

-- Any packet, by whether the client was welcomed.
abbrev pub after_packet_if : Bool → ℕ → ℕ → Session → Up → After
after_packet_if true client here session packet = after_up client session packet
after_packet_if false client here session packet =
    after_greeting session (greeting_of here packet)

abbrev pub after_packet : ℕ → ℕ → Session → Up → After
after_packet client here session packet =
    after_packet_if session.welcomed client here session packet

-- Packets one after another, none of which ends the session.
abbrev pub after_all : ℕ → ℕ → Session → List Up → After
after_all client here session [] = Ok session
after_all client here session (packet ∷ packets) =
    after_packet client here session packet >>= λ next. after_all client here next packets

-- How a session ends by what stands next in its bytes, if it ends there: with a packet that ends it,
-- with the fault in a packet's place, or with the bytes.
abbrev pub end_by : After → Option Ending
end_by (Ok session) = None
end_by (Err end) = Some end

abbrev pub end_at : ℕ → ℕ → Session → FirstPacket Up → Option Ending
end_at client here session (Ok None) = Some ending.Over
end_at client here session (Ok (Some first)) = end_by (after_packet client here session first.0)
end_at client here session (Err fault) = Some (ending.Refused (cause.Feed fault))

-- Bytes that hold no end of their own end there, or are too many.
abbrev pub limited : ℕ → Ending → Ending
limited size ending.Over =
    if nat_lt size MAX_LINK_BYTES then ending.Over else ending.Refused cause.SessionTooLong
limited size ending.Bye = ending.Bye
limited size (ending.Refused cause) = ending.Refused cause

-- The first packets of these bytes make this session, and this is left of them.
pub record Makes (client here : ℕ) (bytes : List ℕ) (session : Session) (rest : List ℕ) :
    Type 0 where
  pub packets : List Up
  pub reads : ReadsAll up_at bytes packets rest
  pub follows : after_all client here no_session packets ≡ Ok session

-- A client's bytes, of which no more than the first `MAX_LINK_BYTES` are looked at, make this session
-- and end so, at this place: the plays of the session are those that the bytes put, its reports those
-- that they hold before the end.
pub record IsSession (client here : ℕ) (bytes : List ℕ) (session : Session) (end : Ending) (at : ℕ) :
    Type 0 where
  pub rest : List ℕ
  pub makes : Makes client here (take MAX_LINK_BYTES bytes) session rest
  pub place : at + length rest ≡ length (take MAX_LINK_BYTES bytes)
  pub ends :
      option_map (limited (length bytes)) (end_at client here session (packet_at up_at rest))
      ≡ Some end
