-- How an exchange with a window and a queue stands to the schedule as sets and lists.
use Rattle.std.specs.Prelude.{◌≡◌, ℕ, ◌+◌, ◌<◌, ◌≤◌, true, false, if◌then◌else◌, List, length}
use Rattle.std.specs.Prelude.{take, drop, Option, Some, None, slice_get, slice_index_or}
use Rattle.std.specs.List.{AllByRecursion}
use Rattle.datagram_link.specs.declared.limits.TheConstants.{WINDOW, MAX_PAYLOADS}
use Rattle.datagram_link.specs.declared.datagram.Datagram.{Datagram}
use Rattle.datagram_link.specs.declared.datagram.Datagram.TheVariants.{Data, Ack, Call, Here}
use Rattle.datagram_schedule.specs.Exchange.{ExchangeState}
use Rattle.datagram_schedule.specs.Schedule.{Schedule, has}

-- What stands at the place of a number, where these payloads were offered and these numbers
-- arrived.
abbrev pub place_of : (offered : List (List ℕ)) (arrived : List ℕ) → ℕ → Option (List ℕ)
place_of offered arrived number =
    if has arrived number then slice_get offered number else None

-- A datagram in the air: an offered payload under its number, or an acknowledgement of no more than
-- came into order.
abbrev pub IsSound : (offered : List (List ℕ)) (next : ℕ) → Datagram → Type 0
IsSound offered next (Data number payload) = slice_get offered number ≡ Some payload
IsSound offered next (Ack count) = count ≤ next
IsSound offered next Call = ⊥
IsSound offered next (Here port) = ⊥

-- The numbers below `next` are those that came into order: all of them arrived, `next` did not, and
-- no number arrived that was not offered.
pub record InOrder (offered : List (List ℕ)) (arrived : List ℕ) (next : ℕ) : Type 0 where
  pub gapless : (number : ℕ) → number < next → has arrived number ≡ true
  pub gap : has arrived next ≡ false
  pub known : (number : ℕ) → has arrived number ≡ true → number < length offered

-- The window has the payloads of the numbers from `next` on that arrived.
pub record InWindow (offered : List (List ℕ)) (arrived : List ℕ) (next : ℕ)
    (window : List (Option (List ℕ))) : Type 0 where
  pub places : length window ≡ WINDOW
  pub each :
      (i : ℕ) → i < WINDOW →
      slice_index_or window i None ≡ place_of offered arrived (next + i)

-- The exchange stands as the schedule says.
pub record Follows (s : Schedule) (x : ExchangeState) : Type 0 where
  pub air : x.air ≡ s.air
  pub acknowledged : x.sender.acknowledged ≡ s.acked
  pub waiting : x.sender.waiting ≡ drop s.acked s.offered
  pub order : InOrder s.offered s.arrived x.receiver.next
  pub ready : x.receiver.ready ≡ take x.receiver.next s.offered
  pub window : InWindow s.offered s.arrived x.receiver.next x.receiver.window
  pub acked : s.acked ≤ x.receiver.next
  pub few : length s.offered ≤ s.acked + WINDOW
  pub most : length s.offered ≤ MAX_PAYLOADS
  pub grams : AllByRecursion (IsSound s.offered x.receiver.next) s.air
