-- What a schedule leaves, as sets and lists: the payloads that were offered, the datagrams in the
-- air, the numbers that arrived, and the highest acknowledgement that arrived. There is no window
-- and no queue.
use Rattle.std.specs.Prelude.{ℕ, zero, suc, ◌+◌, ◌-◌, ◌==◌, max, nat_lt, nat_le, Bool, false}
use Rattle.std.specs.Prelude.{◌&&◌, ◌||◌, if◌then◌else◌, List, [], ◌∷◌, ◌++◌, length, take}
use Rattle.std.specs.Prelude.{slice_get, slice_index_or, Option, None, Some}
use Rattle.datagram_link.specs.declared.limits.TheConstants.{WINDOW, MAX_PAYLOADS}
use Rattle.datagram_link.specs.declared.datagram.Datagram.{Datagram}
use Rattle.datagram_link.specs.declared.datagram.Datagram.TheVariants.{Data, Ack, Call, Here}
use Rattle.datagram_schedule.specs.declared.event.Event.{Event}
use Rattle.datagram_schedule.specs.declared.event.Event.TheVariants.{Offer, Send, Acknowledge, Arrive}
use Rattle.datagram_schedule.specs.declared.outcome.Outcome.{Outcome}
use Rattle.datagram_schedule.specs.declared.outcome.Outcome.TheVariants as outcome

pub record Schedule : Type 0 where
  -- The payloads that were offered and taken, by their numbers.
  pub offered : List (List ℕ)
  -- The datagrams that were put into the air, by their numbers.
  pub air : List Datagram
  -- The numbers of the payloads that arrived.
  pub arrived : List ℕ
  -- The highest acknowledgement that arrived: all payloads below it came.
  pub acked : ℕ

-- Before the first event.
abbrev pub nothing_scheduled : Schedule
nothing_scheduled = record { offered = []; air = []; arrived = []; acked = 0 }

-- The number is one of these.
abbrev pub has : List ℕ → ℕ → Bool
has [] number = false
has (first ∷ numbers) number = first == number || has numbers number

-- The first number from n on that is none of these, or the one after the next `count` of them.
abbrev pub missing_from : List ℕ → (n count : ℕ) → ℕ
missing_from numbers n zero = n
missing_from numbers n (suc count) =
    if has numbers n then missing_from numbers (n + 1) count else n

-- How many payloads came into order: the numbers 0, 1, .. below this one all arrived.
abbrev pub in_order : Schedule → ℕ
in_order s = missing_from s.arrived 0 (length s.offered)

-- The payloads that were delivered: those of the longest prefix 0, 1, .. of numbers that all
-- arrived.
abbrev pub delivered : Schedule → List (List ℕ)
delivered s = take (in_order s) s.offered

-- A payload is taken where fewer than `WINDOW` are unacknowledged, and fewer than `MAX_PAYLOADS`
-- were offered.
abbrev pub has_room : Schedule → Bool
has_room s =
    nat_lt (length s.offered) (s.acked + WINDOW) && nat_lt (length s.offered) MAX_PAYLOADS

-- There is a payload at this place among those that are unacknowledged.
abbrev pub is_due : Schedule → ℕ → Bool
is_due s place = nat_lt (s.acked + place) (length s.offered)

-- The payload with this number.
abbrev pub payload_of : Schedule → ℕ → List ℕ
payload_of s number = slice_index_or s.offered number []

-- A payload with this number arrived.
abbrev pub with_arrived : Schedule → ℕ → Schedule
with_arrived s number =
    if has s.arrived number then s else record s { arrived = number ∷ s.arrived }

-- The outcome of a payload's number that arrives.
abbrev pub number_outcome : Schedule → ℕ → Outcome
number_outcome s number =
    if has s.arrived number then outcome.Repeat number
    else (if number == in_order s
    then outcome.Delivered (in_order (with_arrived s number) - in_order s)
    else outcome.Kept number)

-- The outcome of a datagram that arrives, if there is one with this number, and what it leaves.
abbrev pub gram_outcome : Schedule → Option Datagram → Outcome
gram_outcome s None = outcome.NoDatagram
gram_outcome s (Some (Data number payload)) = number_outcome s number
gram_outcome s (Some (Ack next)) =
    if nat_le next s.acked then outcome.Old else outcome.Freed (next - s.acked)
gram_outcome s (Some Call) = outcome.NoDatagram
gram_outcome s (Some (Here port)) = outcome.NoDatagram

abbrev pub after_gram : Schedule → Option Datagram → Schedule
after_gram s None = s
after_gram s (Some (Data number payload)) = with_arrived s number
after_gram s (Some (Ack next)) = record s { acked = max s.acked next }
after_gram s (Some Call) = s
after_gram s (Some (Here port)) = s

-- The outcome of an event, and what it leaves.
abbrev pub outcome_of : Schedule → Event → Outcome
outcome_of s (Offer payload) =
    if has_room s then outcome.Offered (length s.offered) else outcome.WindowFull
outcome_of s (Send place) =
    if is_due s place then outcome.Sent (length s.air) else outcome.NoneDue
outcome_of s Acknowledge = outcome.Acknowledged (length s.air) (in_order s)
outcome_of s (Arrive gram) = gram_outcome s (slice_get s.air gram)

abbrev pub after_event : Schedule → Event → Schedule
after_event s (Offer payload) =
    if has_room s then record s { offered = s.offered ++ payload ∷ [] } else s
after_event s (Send place) =
    if is_due s place
    then record s {
      air = s.air ++ Data (s.acked + place) (payload_of s (s.acked + place)) ∷ [];
    }
    else s
after_event s Acknowledge = record s { air = s.air ++ Ack (in_order s) ∷ [] }
after_event s (Arrive gram) = after_gram s (slice_get s.air gram)

-- What a schedule leaves, from the first event to the last.
abbrev pub scheduled : List Event → Schedule → Schedule
scheduled [] s = s
scheduled (event ∷ events) s = scheduled events (after_event s event)
