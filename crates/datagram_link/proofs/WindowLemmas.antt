-- The places of a window by their numbers.
use Rattle.std.proofs.Common.{◌≡◌, ℕ, zero, suc, ◌+◌, ◌-◌, ◌<◌, ◌≤◌, List, [], ◌∷◌, ◌++◌}
use Rattle.std.proofs.Common.{length, drop, Option, Some, None, refl, sym, ap, ◌∙◌}
use Rattle.std.proofs.Common.{⊎_elim, arith, append_assoc, append-nil, length-append, length-drop}
use Rattle.std.specs.Prelude.{replicate, slice_index_or}
use Rattle.std.proofs.lemmas.Bool.{cases_lt}
use Rattle.std.proofs.lemmas.List.{get_or-drop, get_or_append_left, get_or-append_right, get_or_past}
use Rattle.std.proofs.lemmas.List.{length-replicate}
use Rattle.datagram_link.specs.Window.{run_of, after_run, moved_on}

-- ---- one place more, which is empty

pub run_push :
    {A : Type 0} (places : List (Option A)) → run_of (places ++ None ∷ []) ≡ run_of places
run_push [] = refl
run_push (None ∷ places) = refl
run_push (Some payload ∷ places) = ap (λ payloads. payload ∷ payloads) (run_push places)

pub after_push :
    {A : Type 0} (places : List (Option A)) →
    after_run (places ++ None ∷ []) ≡ after_run places ++ None ∷ []
after_push [] = refl
after_push (None ∷ places) = refl
after_push (Some payload ∷ places) = after_push places

-- The window is moved on by one place.
pub moved_push :
    {A : Type 0} (payload : A) (places : List (Option A)) →
    moved_on (places ++ None ∷ []) ≡ moved_on (Some payload ∷ places)
moved_push {A = A} payload places =
    let rest : List (Option A) = replicate (length (run_of places)) None in
    rw (run_push places, after_push places) (append_assoc (after_run places) (None ∷ []) rest)

-- A window that begins with no payload stays.
pub moved_none :
    {A : Type 0} (places : List (Option A)) → run_of places ≡ [] → moved_on places ≡ places
moved_none [] none = refl
moved_none (None ∷ places) none = append-nil (None ∷ places)
moved_none (Some payload ∷ places) none = absurd cc

-- ---- places by number

-- Each payload of the run stands at its place.
pub run_get :
    {A : Type 0} (places : List (Option A)) (i : ℕ) (d : A) → i < length (run_of places) →
    slice_index_or places i None ≡ Some (slice_index_or (run_of places) i d)
run_get [] i d within = absurd (omega arith)
run_get (None ∷ places) i d within = absurd (omega arith)
run_get (Some payload ∷ places) zero d within = refl
run_get (Some payload ∷ places) (suc i) d within = run_get places i d (omega arith)

-- After the run comes an empty place, or the end.
pub run_end :
    {A : Type 0} (places : List (Option A)) →
    slice_index_or places (length (run_of places)) None ≡ None
run_end [] = refl
run_end (None ∷ places) = refl
run_end (Some payload ∷ places) = run_end places

pub run_le : {A : Type 0} (places : List (Option A)) → length (run_of places) ≤ length places
run_le [] = omega arith
run_le (None ∷ places) = omega arith
run_le (Some payload ∷ places) = omega (arith, run_le places)

pub after_is_drop :
    {A : Type 0} (places : List (Option A)) →
    after_run places ≡ drop (length (run_of places)) places
after_is_drop [] = refl
after_is_drop (None ∷ places) = refl
after_is_drop (Some payload ∷ places) = after_is_drop places

pub moved_length :
    {A : Type 0} (places : List (Option A)) → length (moved_on places) ≡ length places
moved_length {A = A} places =
    let count = length (run_of places) in
    let empty : List (Option A) = replicate count None in
    omega (
      arith,
      run_le places,
      length-append (after_run places) empty,
      length-replicate {A = Option A} count None,
      ap length (after_is_drop places),
      length-drop count places,
    )

-- Empty places alone.
pub get_empty :
    {A : Type 0} (count i : ℕ) →
    slice_index_or (replicate {A = Option A} count None) i None ≡ None
get_empty zero i = refl
get_empty (suc count) zero = refl
get_empty (suc count) (suc i) = get_empty count i

-- Each place after the run has moved to the front by its length.
pub moved_get :
    {A : Type 0} (places : List (Option A)) (i : ℕ) →
    slice_index_or (moved_on places) i None
    ≡ slice_index_or places (length (run_of places) + i) None
moved_get {A = A} places i =
    let count = length (run_of places) in
    let empty : List (Option A) = replicate count None in
    let whole : slice_index_or (moved_on places) i None ≡ slice_index_or (drop count places ++ empty) i None =
    ap (λ (first : List (Option A)). slice_index_or (first ++ empty) i None) (after_is_drop places) in
    let len : length (drop count places) ≡ length places - count = length-drop count places in
    whole
    ∙ ⊎_elim
    (λ (below : i < length (drop count places)). get_or_append_left (drop count places) empty None i below
    ∙ get_or-drop count places i None)
    (λ (above : length (drop count places) ≤ i).
    get_or-append_right (drop count places) empty (length (drop count places)) i None refl above
    ∙ get_empty {A = A} count (i - length (drop count places))
    ∙ sym (get_or_past places (count + i) None (omega (arith, run_le places))))
    (cases_lt i (length (drop count places)))

-- The first place has a payload, which is handed out, and an empty place comes last.
pub first_taken :
    {A : Type 0} (payload : A) (places mid new : List (Option A)) → places ≡ Some payload ∷ mid →
    new ≡ mid ++ None ∷ [] →
    (run_of places ≡ payload ∷ run_of new) × (moved_on new ≡ moved_on places)
first_taken {A = A} payload places mid new first more = (
  ap run_of first
      ∙ ap (λ (payloads : List A). payload ∷ payloads) (sym (ap run_of more ∙ run_push mid)),
  ap moved_on more ∙ moved_push payload mid ∙ sym (ap moved_on first),
)
