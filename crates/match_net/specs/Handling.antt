-- What the server makes of one packet of a client, in whose column another may have put the
-- departure by then.
use Rattle.std.specs.Prelude.{◌≡◌, ℕ, ◌≤◌, Bool, true, List, length, Option, Some, None, Ok, Err}
use Rattle.game_orders.specs.declared.order.Order.{Order}
use Rattle.game_orders.specs.declared.entry.Entry.TheVariants.{Play, Leave}
use Rattle.frame_core.specs.declared.put.Put.{Put}
use Rattle.frame_core.specs.declared.put.Put.TheVariants as put
use Rattle.order_packets.specs.declared.up.Up.{Up}
use Rattle.order_packets.specs.declared.up.Up.TheVariants.{Orders}
use Rattle.match_net.specs.declared.read_cause.ReadCause.TheVariants as cause
use Rattle.match_net.specs.declared.ending.Ending.TheVariants as ending
use Rattle.match_net.specs.declared.reader_end.ReaderEnd.{ReaderEnd}
use Rattle.match_net.specs.declared.reader_end.ReaderEnd.TheVariants as end
use Rattle.match_net.specs.Session.{Session, after_up}

-- How the reading ends by the answer to a play at this frame, if it does. Only a departure that
-- another has fixed answers `Left`, or stands at the frame.
abbrev pub end_by_put : Put → ℕ → Option ReaderEnd
end_by_put put.Fixed frame = None
end_by_put put.Repeat frame = None
end_by_put (put.Conflict (Play kept)) frame = Some (end.Refused cause.Conflict)
end_by_put (put.Conflict Leave) frame = Some (end.LeftAt frame)
end_by_put (put.Left at) frame = Some (end.LeftAt at)
end_by_put (put.Ahead plays) frame = Some (end.Refused cause.Ahead)
end_by_put put.Full frame = Some (end.Refused cause.Full)

-- Where the reading ends since another let the client leave, that is so.
abbrev pub IsLeftIf : Bool → Option ReaderEnd → Type 0
IsLeftIf left None = Unit {0}
IsLeftIf left (Some end.Ended) = Unit {0}
IsLeftIf left (Some (end.Refused cause)) = Unit {0}
IsLeftIf left (Some (end.LeftAt at)) = left ≡ true
IsLeftIf left (Some end.Lost) = Unit {0}
IsLeftIf left (Some end.NoMemory) = Unit {0}

-- The packet has orders for the frame at which another has let the client leave, after all its
-- plays, or for a later one.
pub record IsLate (session : Session) (packet : Up) (at : ℕ) : Type 0 where
  pub frame : ℕ
  pub orders : List Order
  pub is : packet ≡ Orders frame orders
  pub after_all : at ≡ length session.plays
  pub late : at ≤ frame

-- What an answer to a packet says of the client's session before it and after it: it goes on with
-- the packet; or it ends there, as its own packets have it; or the packet is late; or memory ran out.
abbrev pub HandlingMeans : ℕ → Session → Up → Session → Option ReaderEnd → Type 0
HandlingMeans client old packet new None = after_up client old packet ≡ Ok new
HandlingMeans client old packet new (Some end.Ended) =
    (new ≡ old) × (after_up client old packet ≡ Err ending.Bye)
HandlingMeans client old packet new (Some (end.Refused cause)) =
    (new ≡ old) × (after_up client old packet ≡ Err (ending.Refused cause))
HandlingMeans client old packet new (Some (end.LeftAt at)) = (new ≡ old) × IsLate old packet at
HandlingMeans client old packet new (Some end.Lost) = ⊥
HandlingMeans client old packet new (Some end.NoMemory) = new ≡ old
