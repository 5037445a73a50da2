-- A receiver: how many payloads came into order, which of the next ones came, and which that came
-- into order are still to be popped.
use Rattle.std.specs.Prelude.{◌≡◌, ◌<◌, ℕ, ◌+◌, ◌-◌, ◌==◌, nat_lt, nat_le, Bool, true, ◌||◌, if◌then◌else◌}
use Rattle.std.specs.Prelude.{List, [], ◌++◌, length, replicate}
use Rattle.std.specs.Prelude.{Option, Some, None, is_some, slice_index_or, slice_set}
use Rattle.datagram_link.specs.declared.limits.TheConstants.{WINDOW, MAX_PAYLOADS}
use Rattle.datagram_link.specs.declared.arrived.Arrived.{Arrived}
use Rattle.datagram_link.specs.declared.arrived.Arrived.TheVariants.{Delivered, Kept, Repeat, TooFar}
use Rattle.datagram_link.specs.Window.{run_of, moved_on}

-- The number of the next payload in order, the places of the numbers from it on, and the payloads
-- before it that are still to be popped.
pub record ReceiverState : Type 0 where
  pub next : ℕ
  pub window : List (Option (List ℕ))
  pub ready : List (List ℕ)

-- Before the first payload.
abbrev pub nothing_arrived : ReceiverState
nothing_arrived = record { next = 0; window = replicate WINDOW None; ready = [] }

-- The payload with this number came.
abbrev pub has_arrived : ReceiverState → ℕ → Bool
has_arrived r number =
    nat_lt number r.next || is_some (slice_index_or r.window (number - r.next) None)

-- The number is beyond the window, or is that of no payload.
abbrev pub is_too_far : ReceiverState → ℕ → Bool
is_too_far r number = nat_le (r.next + WINDOW) number || number == MAX_PAYLOADS

-- The places with a payload more.
abbrev pub filled : ReceiverState → ℕ → List ℕ → List (Option (List ℕ))
filled r number payload = slice_set r.window (number - r.next) (Some payload)

-- The answer to a payload that arrives.
abbrev pub arrival_answer : ReceiverState → ℕ → List ℕ → Arrived
arrival_answer r number payload =
    if has_arrived r number then Repeat
    else (if is_too_far r number then TooFar
    else (if number == r.next then Delivered (length (run_of (filled r number payload)))
    else Kept))

-- What an arrival with this answer leaves.
abbrev pub arrival_leaves : Arrived → ReceiverState → ℕ → List ℕ → ReceiverState
arrival_leaves (Delivered count) r number payload =
    record {
      next = r.next + count;
      window = moved_on (filled r number payload);
      ready = r.ready ++ run_of (filled r number payload);
    }
arrival_leaves Kept r number payload = record r { window = filled r number payload }
arrival_leaves Repeat r number payload = r
arrival_leaves TooFar r number payload = r

abbrev pub after_arrival : ReceiverState → ℕ → List ℕ → ReceiverState
after_arrival r number payload = arrival_leaves (arrival_answer r number payload) r number payload

-- The window has all its places, and a payload only where a number of one stands.
pub record IsReceiver (next : ℕ) (window : List (Option (List ℕ))) : Type 0 where
  pub places : length window ≡ WINDOW
  pub within :
      (i : ℕ) → is_some (slice_index_or window i None) ≡ true → next + i < MAX_PAYLOADS
