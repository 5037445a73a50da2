-- A post as contracts see it, and what its calls did.
use Rattle.std.specs.Prelude.{◌≡◌, ℕ, ◌≤◌, List, [], ◌∷◌, ◌++◌, length, take, drop, slice_get}
use Rattle.std.specs.Prelude.{Option, Some, None, Result, IfOk, IfSome, OnOk, OnErr}
use Rattle.std.specs.Option.{option_map}
use Rattle.base.specs.Cause.{Increased}
use Rattle.datagram_link.specs.declared.arrival.Arrival.{Arrival}
use Rattle.datagram_link.specs.declared.arrival.Arrival.TheVariants.{Got, Quiet}
use Rattle.datagram_link.specs.declared.limits.TheConstants.{RECEIVE_ROOM}

-- The datagrams that wait to be received, in order, and those that were sent.
pub record Held : Type 0 where
  pub waiting : List (List ℕ)
  pub sent : List (List ℕ)

-- What the post holds, where that is observable, and how often it has failed, up to the greatest
-- 64-bit number.
pub record PostState : Type 0 where
  pub held : Option Held
  pub faults : ℕ

-- The first waiting datagram was taken away.
abbrev pub without_first : Held → Held
without_first held = record held { waiting = drop 1 held.waiting }

-- These datagrams were sent after the others.
abbrev pub with_sent : List (List ℕ) → Held → Held
with_sent grams held = record held { sent = held.sent ++ grams }

-- What a receive gave: the bytes in the room, or none where it was quiet.
abbrev pub gram_in : (room : List ℕ) → Arrival → Option (List ℕ)
gram_in room (Got count) = Some (take count room)
gram_in room Quiet = None

-- What a receive gives: the first waiting datagram, or its first bytes where it is longer than the
-- room.
abbrev pub first_waiting : Held → Option (List ℕ)
first_waiting held = option_map (take RECEIVE_ROOM) (slice_get held.waiting 0)

-- The bytes are what a post gave that was so before: no more than there is room for, and where the
-- post is observable the first waiting datagram, or none where none waits.
pub record IsGot (post : PostState) (got : Option (List ℕ)) : Type 0 where
  pub fits : IfSome got (λ gram. length gram ≤ RECEIVE_ROOM)
  pub first : IfSome post.held (λ held. got ≡ first_waiting held)

-- A count of bytes is at most the room.
abbrev pub CountFits : Arrival → Type 0
CountFits (Got count) = count ≤ RECEIVE_ROOM
CountFits Quiet = Unit {0}

-- A call received. `room` is the room after it. After a failure nothing was taken.
pub record Receives {E : Type 0}
    (old new : PostState) (room : List ℕ) (result : Result Arrival E) : Type 0 where
  pub fits : IfOk result CountFits
  pub first :
      IfOk result (λ arrival. IfSome old.held (λ held. gram_in room arrival ≡ first_waiting held))
  pub taken : OnOk result (new.held ≡ option_map without_first old.held)
  pub untaken : OnErr result (new.held ≡ old.held)
  pub later : old.faults ≤ new.faults
  pub failed : OnErr result (Increased old.faults new.faults)

-- A call sent a datagram. After a failure it was not sent.
pub record Sends {T E : Type 0}
    (old new : PostState) (gram : List ℕ) (result : Result T E) : Type 0 where
  pub sent : OnOk result (new.held ≡ option_map (with_sent (gram ∷ [])) old.held)
  pub unsent : OnErr result (new.held ≡ old.held)
  pub later : old.faults ≤ new.faults
  pub failed : OnErr result (Increased old.faults new.faults)

-- Of these datagrams a prefix was sent, and no others.
pub record SentPrefix (old new : Option Held) (grams : List (List ℕ)) : Type 0 where
  pub prefix : List (List ℕ)
  pub rest : List (List ℕ)
  pub whole : prefix ++ rest ≡ grams
  pub sent : new ≡ option_map (with_sent prefix) old
