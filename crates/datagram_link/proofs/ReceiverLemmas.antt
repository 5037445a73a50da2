-- The invariant of a receiver: where payloads may stand, and that its next number stays in range.
use Rattle.std.proofs.Common.{◌≡◌, ℕ, ◌+◌, ◌-◌, ◌<◌, ◌≤◌, true, false, List, []}
use Rattle.std.proofs.Common.{length, Option, Some, None, sym, ap, ◌∙◌}
use Rattle.std.proofs.Common.{⊎_elim, arith, eqb, leb, ◌^◌}
use Rattle.std.specs.Prelude.{is_some, replicate, slice_index_or, slice_set}
use Rattle.std.proofs.lemmas.Bool.{cases_eq, false≢true, or_parts, leb-false, eqb-false}
use Rattle.std.proofs.lemmas.List.{get_or-set_other, length-replicate, length-set}
use Rattle.datagram_link.specs.declared.limits.TheConstants.{WINDOW, MAX_PAYLOADS}
use Rattle.datagram_link.specs.Window.{run_of, moved_on}
use Rattle.datagram_link.proofs.WindowLemmas.{run_get, moved_length, moved_get, get_empty}
use Rattle.datagram_link.specs.Receiver.{IsReceiver, ReceiverState, is_too_far}

-- Nothing has arrived.
pub receiver_start :
    (window : List (Option (List ℕ))) → window ≡ replicate WINDOW None → IsReceiver 0 window
receiver_start window is =
    rw is (record {
      places = length-replicate {A = Option (List ℕ)} WINDOW None;
      within = λ i some. absurd (false≢true (sym (ap is_some (get_empty {A = List ℕ} WINDOW i)) ∙ some));
    })

-- A payload is put at a place.
pub receiver_filled :
    (next at : ℕ) (payload : List ℕ) (old new : List (Option (List ℕ))) → IsReceiver next old →
    next + at < MAX_PAYLOADS → new ≡ slice_set old at (Some payload) → IsReceiver next new
receiver_filled next at payload old new whole below is =
    rw is (record {
      places = length-set old at (Some payload) ∙ whole.places;
      within = λ i some.
          ⊎_elim (λ (same : i ≡ at). omega arith)
          (λ (other : i ≡ at → ⊥).
          whole.within i
          (sym (ap is_some (get_or-set_other old at i (Some payload) None other)) ∙ some))
          (cases_eq i at);
    })

-- A number that is not too far.
pub near_number :
    (r : ReceiverState) (number : ℕ) → is_too_far r number ≡ false → number < 2 ^ 32 →
    (number < r.next + WINDOW) × (number < MAX_PAYLOADS)
near_number r number near small =
    let both = or_parts (leb (r.next + WINDOW) number) (eqb number MAX_PAYLOADS) near in
    let below : number < r.next + WINDOW = leb-false (r.next + WINDOW) number both.0 in
    let other : number ≡ MAX_PAYLOADS → ⊥ = eqb-false number MAX_PAYLOADS both.1 in
    (below, omega arith)

-- The number after the run is in range.
pub receiver_bound :
    (next : ℕ) (window : List (Option (List ℕ))) → IsReceiver next window → next ≤ MAX_PAYLOADS →
    next + length (run_of window) ≤ MAX_PAYLOADS
receiver_bound next window whole small =
    ⊎_elim (λ (none : length (run_of window) ≡ 0). omega arith)
    (λ (some : length (run_of window) ≡ 0 → ⊥).
    let last = length (run_of window) - 1 in
    let at : is_some (slice_index_or window last None) ≡ true =
    ap is_some (run_get window last [] (omega arith)) in
    omega (arith, whole.within last at))
    (cases_eq (length (run_of window)) 0)

-- The window is moved on.
pub receiver_moved :
    (next : ℕ) (old new : List (Option (List ℕ))) → IsReceiver next old → new ≡ moved_on old →
    IsReceiver (next + length (run_of old)) new
receiver_moved next old new whole is =
    rw is (record {
      places = moved_length old ∙ whole.places;
      within = λ i some.
          omega (arith, whole.within (length (run_of old) + i) (sym (ap is_some (moved_get old i)) ∙ some));
    })
