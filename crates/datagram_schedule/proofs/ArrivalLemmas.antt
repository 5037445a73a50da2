-- A payload that arrives: the numbers in order, the window and the queue after it.
use Rattle.std.proofs.Common.{◌≡◌, ℕ, ◌+◌, ◌-◌, ◌<◌, ◌≤◌, true, false, cond, List, [], ◌∷◌}
use Rattle.std.proofs.Common.{◌++◌, length, take, drop, Option, Some, None, refl, sym, ap, ap₂}
use Rattle.std.proofs.Common.{◌∙◌, ⊎_elim, arith, add_assoc, take-add, length-drop}
use Rattle.std.specs.Prelude.{slice_get, slice_index_or}
use Rattle.std.proofs.lemmas.Bool.{cases_lt, cases_eq, false≢true, lt-ltb, le-ltb, lt-leb}
use Rattle.std.proofs.lemmas.Bool.{ne_eqb, eq-eqb, false_from_ne_true}
use Rattle.std.proofs.lemmas.List.{get_or-set_same, get_or-set_other, length-set, get_or_past, get_or-take}
use Rattle.std.proofs.lemmas.List.{get_or-drop, same_lists, length-take-le, get_or_default}
use Rattle.std.proofs.lemmas.Option.{slice_get_within, get_or_from_slice_get}
use Rattle.datagram_link.specs.declared.limits.TheConstants.{WINDOW, MAX_PAYLOADS}
use Rattle.datagram_link.specs.declared.arrived.Arrived.{Arrived}
use Rattle.datagram_link.specs.declared.arrived.Arrived.TheVariants.{Delivered, Kept, Repeat}
use Rattle.datagram_link.specs.Window.{run_of, moved_on}
use Rattle.datagram_link.proofs.WindowLemmas.{run_get, run_end, run_le, moved_length, moved_get}
use Rattle.datagram_link.specs.Receiver.{ReceiverState, has_arrived, is_too_far, filled}
use Rattle.datagram_link.specs.Receiver.{arrival_answer, arrival_leaves}
use Rattle.datagram_schedule.specs.Schedule.{has}
use Rattle.datagram_schedule.specs.Follows.{InOrder, InWindow, place_of}
use Rattle.datagram_schedule.proofs.NumberLemmas.{has_first, has_later, has_still, order_within}
use Rattle.datagram_schedule.proofs.NumberLemmas.{place_there, place_empty, place_some, place_none}

-- A receiver that has what was offered by these numbers.
pub record HasArrivals (offered : List (List ℕ)) (arrived : List ℕ) (r : ReceiverState)
    : Type 0 where
  pub order : InOrder offered arrived r.next
  pub ready : r.ready ≡ take r.next offered
  pub window : InWindow offered arrived r.next r.window
  pub few : length offered ≤ r.next + WINDOW
  pub most : length offered ≤ MAX_PAYLOADS

-- ---- whether a number has arrived

-- The place of an offered number from the next on.
at_place :
    (offered : List (List ℕ)) (arrived : List ℕ) (r : ReceiverState) → HasArrivals offered arrived r →
    (number : ℕ) → number < length offered → r.next ≤ number →
    slice_index_or r.window (number - r.next) None ≡ place_of offered arrived number
at_place offered arrived r holds number within above =
    let few = holds.few in
    holds.window.each (number - r.next) (omega arith)
    ∙ ap (place_of offered arrived) (omega arith)

arrived_there :
    (offered : List (List ℕ)) (arrived : List ℕ) (r : ReceiverState) → HasArrivals offered arrived r →
    (number : ℕ) (payload : List ℕ) → slice_get offered number ≡ Some payload →
    has arrived number ≡ true → has_arrived r number ≡ true
arrived_there offered arrived r holds number payload at there =
    ⊎_elim
    (λ (below : number < r.next). rw (lt-ltb number r.next below) refl)
    (λ (above : r.next ≤ number).
    let within = slice_get_within offered number payload at in
    let place : slice_index_or r.window (number - r.next) None ≡ Some payload =
    at_place offered arrived r holds number within above
    ∙ place_there offered arrived number there ∙ at in
    rw (le-ltb number r.next above, place) refl)
    (cases_lt number r.next)

arrived_not :
    (offered : List (List ℕ)) (arrived : List ℕ) (r : ReceiverState) → HasArrivals offered arrived r →
    (number : ℕ) (payload : List ℕ) → slice_get offered number ≡ Some payload →
    has arrived number ≡ false → has_arrived r number ≡ false
arrived_not offered arrived r holds number payload at none =
    ⊎_elim
    (λ (below : number < r.next).
    absurd (false≢true (sym none ∙ holds.order.gapless number below)))
    (λ (above : r.next ≤ number).
    let within = slice_get_within offered number payload at in
    let place : slice_index_or r.window (number - r.next) None ≡ None =
    at_place offered arrived r holds number within above
    ∙ place_empty offered arrived number none in
    rw (le-ltb number r.next above, place) refl)
    (cases_lt number r.next)

not_far :
    (offered : List (List ℕ)) (arrived : List ℕ) (r : ReceiverState) → HasArrivals offered arrived r →
    (number : ℕ) (payload : List ℕ) → slice_get offered number ≡ Some payload →
    is_too_far r number ≡ false
not_far offered arrived r holds number payload at =
    let within = slice_get_within offered number payload at in
    let few = holds.few in
    let most = holds.most in
    rw (
      lt-leb (r.next + WINDOW) number (omega arith),
      ne_eqb number MAX_PAYLOADS (λ same. omega arith),
    ) refl

-- ---- a number that had not arrived

-- The places with the payload are those of the numbers with this one.
filled_each :
    (offered : List (List ℕ)) (arrived : List ℕ) (r : ReceiverState) → HasArrivals offered arrived r →
    (number : ℕ) (payload : List ℕ) → slice_get offered number ≡ Some payload →
    r.next ≤ number → (i : ℕ) → i < WINDOW →
    slice_index_or (filled r number payload) i None
    ≡ place_of offered (number ∷ arrived) (r.next + i)
filled_each offered arrived r holds number payload at above i near =
    let within = slice_get_within offered number payload at in
    let few = holds.few in
    let places = holds.window.places in
    ⊎_elim
    (λ (same : i ≡ number - r.next).
    let here : r.next + i ≡ number = omega arith in
    ap (λ j. slice_index_or (filled r number payload) j None) same
    ∙ get_or-set_same r.window (number - r.next) (Some payload) None (omega arith)
    ∙ sym (place_there offered (number ∷ arrived) number (has_first number arrived) ∙ at)
    ∙ ap (place_of offered (number ∷ arrived)) (sym here))
    (λ (other : i ≡ number - r.next → ⊥).
    let apart : number ≡ r.next + i → ⊥ = λ same. other (omega arith) in
    get_or-set_other r.window (number - r.next) i (Some payload) None other
    ∙ holds.window.each i near
    ∙ ap (λ b. cond b (slice_get offered (r.next + i)) None)
    (sym (has_later number (r.next + i) arrived apart)))
    (cases_eq i (number - r.next))

-- The numbers that arrived are known with this one.
known_more :
    (offered : List (List ℕ)) (arrived : List ℕ) (next : ℕ) → InOrder offered arrived next →
    (number : ℕ) → number < length offered → (other : ℕ) → has (number ∷ arrived) other ≡ true →
    other < length offered
known_more offered arrived next order number within other there =
    ⊎_elim
    (λ (same : number ≡ other). omega arith)
    (λ (apart : number ≡ other → ⊥).
    order.known other (sym (has_later number other arrived apart) ∙ there))
    (cases_eq number other)

-- Places of which each is that of its number, from `next` on.
pub record AreFilled (offered : List (List ℕ)) (arrived : List ℕ) (next : ℕ)
    (places : List (Option (List ℕ))) : Type 0 where
  pub count : length places ≡ WINDOW
  pub each :
      (i : ℕ) → i < WINDOW →
      slice_index_or places i None ≡ place_of offered arrived (next + i)
  pub before : (number : ℕ) → number < next → has arrived number ≡ true
  pub known : (number : ℕ) → has arrived number ≡ true → number < length offered
  pub few : length offered ≤ next + WINDOW

-- The numbers of the run arrived.
run_arrived :
    (offered : List (List ℕ)) (arrived : List ℕ) (next : ℕ) (places : List (Option (List ℕ))) →
    AreFilled offered arrived next places → (i : ℕ) → i < length (run_of places) →
    (has arrived (next + i) ≡ true)
    × (slice_get offered (next + i) ≡ Some (slice_index_or (run_of places) i []))
run_arrived offered arrived next places filled i within =
    let short = run_le places in
    let count = filled.count in
    place_some offered arrived (next + i) (slice_index_or (run_of places) i [])
    (sym (filled.each i (omega arith)) ∙ run_get places i [] within)

run_gapless :
    (offered : List (List ℕ)) (arrived : List ℕ) (next : ℕ) (places : List (Option (List ℕ))) →
    AreFilled offered arrived next places → (number : ℕ) → number < next + length (run_of places) →
    has arrived number ≡ true
run_gapless offered arrived next places filled number within =
    ⊎_elim
    (λ (below : number < next). filled.before number below)
    (λ (above : next ≤ number).
    ap (has arrived) (omega arith)
    ∙ (run_arrived offered arrived next places filled (number - next) (omega arith)).0)
    (cases_lt number next)

run_gap :
    (offered : List (List ℕ)) (arrived : List ℕ) (next : ℕ) (places : List (Option (List ℕ))) →
    AreFilled offered arrived next places →
    has arrived (next + length (run_of places)) ≡ false
run_gap offered arrived next places filled =
    let count = length (run_of places) in
    false_from_ne_true (has arrived (next + count)) (λ there.
    let within : next + count < length offered = filled.known (next + count) there in
    let few = filled.few in
    let empty : place_of offered arrived (next + count) ≡ None =
    sym (filled.each count (omega arith)) ∙ run_end places in
    false≢true (sym (place_none offered arrived (next + count) within empty) ∙ there))

pub run_in_order :
    (offered : List (List ℕ)) (arrived : List ℕ) (next : ℕ) (places : List (Option (List ℕ))) →
    AreFilled offered arrived next places →
    InOrder offered arrived (next + length (run_of places))
run_in_order offered arrived next places filled =
    record {
      gapless = run_gapless offered arrived next places filled;
      gap = run_gap offered arrived next places filled;
      known = filled.known;
    }

-- The run is the part of the offered payloads from `next` on.
run_part :
    (offered : List (List ℕ)) (arrived : List ℕ) (next : ℕ) (places : List (Option (List ℕ))) →
    AreFilled offered arrived next places →
    run_of places ≡ take (length (run_of places)) (drop next offered)
run_part offered arrived next places filled =
    let count = length (run_of places) in
    let within : next + count ≤ length offered =
    order_within offered arrived (next + count) (run_in_order offered arrived next places filled) in
    let long : length (drop next offered) ≡ length offered - next = length-drop next offered in
    let fits : count ≤ length (drop next offered) = omega arith in
    same_lists (run_of places) (take count (drop next offered))
    (sym (length-take-le count (drop next offered) fits))
    (λ i d below.
    sym (get_or_from_slice_get offered (next + i) (slice_index_or (run_of places) i []) d
    (run_arrived offered arrived next places filled i below).1
    ∙ get_or_default (run_of places) i [] d below)
    ∙ sym (get_or-take count (drop next offered) i d below ∙ get_or-drop next offered i d))

-- The window moved on has the places from there on.
run_window :
    (offered : List (List ℕ)) (arrived : List ℕ) (next : ℕ) (places : List (Option (List ℕ))) →
    AreFilled offered arrived next places → (i : ℕ) → i < WINDOW →
    slice_index_or (moved_on places) i None
    ≡ place_of offered arrived (next + length (run_of places) + i)
run_window offered arrived next places filled i near =
    let count = length (run_of places) in
    let size = filled.count in
    let few = filled.few in
    moved_get places i
    ∙ ⊎_elim
    (λ (inside : count + i < WINDOW).
    filled.each (count + i) inside
    ∙ ap (place_of offered arrived) (sym (add_assoc next count i)))
    (λ (outside : WINDOW ≤ count + i).
    get_or_past places (count + i) None (omega arith)
    ∙ sym (place_empty offered arrived (next + count + i)
    (false_from_ne_true (has arrived (next + count + i)) (λ there.
    let within = filled.known (next + count + i) there in
    omega arith))))
    (cases_lt (count + i) WINDOW)

-- ---- the receiver after a payload

-- The payload is the next one.
pub delivers :
    (offered : List (List ℕ)) (arrived : List ℕ) (r : ReceiverState) → HasArrivals offered arrived r →
    (number : ℕ) (payload : List ℕ) → slice_get offered number ≡ Some payload → number ≡ r.next →
    HasArrivals offered (number ∷ arrived)
    (arrival_leaves (Delivered (length (run_of (filled r number payload)))) r number payload)
delivers offered arrived r holds number payload at is =
    let places = filled r number payload in
    let count = length (run_of places) in
    let within = slice_get_within offered number payload at in
    let few = holds.few in
    let all : AreFilled offered (number ∷ arrived) r.next places =
    record {
      count = length-set r.window (number - r.next) (Some payload) ∙ holds.window.places;
      each = filled_each offered arrived r holds number payload at (omega arith);
      before = λ other below. has_still number other arrived (holds.order.gapless other below);
      known = known_more offered arrived r.next holds.order number within;
      few = holds.few;
    } in
    record {
      order = run_in_order offered (number ∷ arrived) r.next places all;
      ready =
          ap₂ (λ (first second : List (List ℕ)). first ++ second) holds.ready
          (run_part offered (number ∷ arrived) r.next places all)
          ∙ sym (take-add r.next count offered);
      window = record {
        places = moved_length places ∙ all.count;
        each = run_window offered (number ∷ arrived) r.next places all;
      };
      few = omega arith;
      most = holds.most;
    }

-- The payload is kept.
pub keeps :
    (offered : List (List ℕ)) (arrived : List ℕ) (r : ReceiverState) → HasArrivals offered arrived r →
    (number : ℕ) (payload : List ℕ) → slice_get offered number ≡ Some payload → r.next < number →
    HasArrivals offered (number ∷ arrived) (arrival_leaves Kept r number payload)
keeps offered arrived r holds number payload at above =
    let within = slice_get_within offered number payload at in
    let apart : number ≡ r.next → ⊥ = λ same. omega arith in
    record {
      order = record {
        gapless = λ other below. has_still number other arrived (holds.order.gapless other below);
        gap = has_later number r.next arrived apart ∙ holds.order.gap;
        known = known_more offered arrived r.next holds.order number within;
      };
      ready = holds.ready;
      window = record {
        places = length-set r.window (number - r.next) (Some payload) ∙ holds.window.places;
        each = filled_each offered arrived r holds number payload at (omega arith);
      };
      few = holds.few;
      most = holds.most;
    }

-- The number is at least the next one.
from_next :
    (offered : List (List ℕ)) (arrived : List ℕ) (r : ReceiverState) → HasArrivals offered arrived r →
    (number : ℕ) → has arrived number ≡ false → r.next ≤ number
from_next offered arrived r holds number none =
    ⊎_elim
    (λ (below : number < r.next). absurd (false≢true (sym none ∙ holds.order.gapless number below)))
    (λ (above : r.next ≤ number). above)
    (cases_lt number r.next)

-- What a payload that was offered does to a receiver.
pub record Arrives (offered : List (List ℕ)) (arrived : List ℕ) (r : ReceiverState)
    (number : ℕ) (payload : List ℕ) (answer : Arrived) (numbers : List ℕ) : Type 0 where
  pub answer_is : arrival_answer r number payload ≡ answer
  pub after : HasArrivals offered numbers (arrival_leaves answer r number payload)

pub arrives_again :
    (offered : List (List ℕ)) (arrived : List ℕ) (r : ReceiverState) → HasArrivals offered arrived r →
    (number : ℕ) (payload : List ℕ) → slice_get offered number ≡ Some payload →
    has arrived number ≡ true → Arrives offered arrived r number payload Repeat arrived
arrives_again offered arrived r holds number payload at there =
    record {
      answer_is = rw (arrived_there offered arrived r holds number payload at there) refl;
      after = holds;
    }

pub arrives_next :
    (offered : List (List ℕ)) (arrived : List ℕ) (r : ReceiverState) → HasArrivals offered arrived r →
    (number : ℕ) (payload : List ℕ) → slice_get offered number ≡ Some payload →
    has arrived number ≡ false → number ≡ r.next →
    Arrives offered arrived r number payload (Delivered (length (run_of (filled r number payload))))
    (number ∷ arrived)
arrives_next offered arrived r holds number payload at none is =
    record {
      answer_is =
          rw (
            arrived_not offered arrived r holds number payload at none,
            not_far offered arrived r holds number payload at,
            eq-eqb number r.next is,
          ) refl;
      after = delivers offered arrived r holds number payload at is;
    }

pub arrives_early :
    (offered : List (List ℕ)) (arrived : List ℕ) (r : ReceiverState) → HasArrivals offered arrived r →
    (number : ℕ) (payload : List ℕ) → slice_get offered number ≡ Some payload →
    has arrived number ≡ false → (number ≡ r.next → ⊥) →
    Arrives offered arrived r number payload Kept (number ∷ arrived)
arrives_early offered arrived r holds number payload at none other =
    let above = from_next offered arrived r holds number none in
    record {
      answer_is =
          rw (
            arrived_not offered arrived r holds number payload at none,
            not_far offered arrived r holds number payload at,
            ne_eqb number r.next other,
          ) refl;
      after = keeps offered arrived r holds number payload at (omega arith);
    }
