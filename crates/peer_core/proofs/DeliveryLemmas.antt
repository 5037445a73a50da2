-- A delivery of an entry that stands in the columns: it is kept, or it was kept before. It
-- contradicts nothing.
use Rattle.std.specs.Prelude.{◌≡◌, ℕ, ◌<◌, ◌≤◌, ◌==◌, ◌&&◌, nat_lt, min, Bool, true, false}
use Rattle.std.specs.Prelude.{if◌then◌else◌, List, [], ◌∷◌, Option, Some, None, is_some, slice_get}
use Rattle.std.specs.List.{AllByRecursion}
use Rattle.std.specs.Option.{option_or}
use Rattle.std.proofs.Common.{refl, sym, ap, ap₂, subst, ◌∙◌, inl, inr, arith}
use Rattle.std.proofs.lemmas.Bool.{and_parts, eqb-true, ltb-true}
use Rattle.std.proofs.lemmas.Bool.Decides.{nat_tests}
use Rattle.std.proofs.lemmas.Option.{slice_get_cases}
use Rattle.game_orders.specs.declared.order.Order.{Order}
use Rattle.game_orders.specs.declared.entry.Entry.{Entry}
use Rattle.game_orders.specs.declared.entry.Entry.TheVariants.{Play, Leave}
use Rattle.game_orders.specs.EntryEquality.{entry_decides}
use Rattle.frame_core.specs.Column.{Column, length_of, entry_from, entry_at, column_of}
use Rattle.frame_core.specs.Column.{IsWithinFrames}
use Rattle.peer_core.specs.declared.arrived.Arrived.{Arrived}
use Rattle.peer_core.specs.declared.delivered.Delivered.TheVariants.{Kept, Repeat, Conflict, Beyond}
use Rattle.peer_core.specs.Arrived.{is_after, least_of, frame_if, kept_at, left_before, kept_after}
use Rattle.peer_core.specs.Delivery.{is_beyond, past_of, against, delivery_of}
use Rattle.peer_core.specs.Faithful.{Stands}
use Rattle.peer_core.proofs.FaithfulLemmas.{kept_agrees, left_agrees}

-- A play stands below the length of its column, a departure at it.
abbrev IsPlaced : Column → ℕ → Entry → Type 0
IsPlaced column n (Play orders) = n < length_of column
IsPlaced column n Leave = n ≡ length_of column

none_is_some : {X : Type 0} (x : X) → None ≡ Some x → ⊥
none_is_some x same = cc

by_play :
    (column : Column) (n : ℕ) (entry : Entry) (found : Option (List Order)) (left here : Bool) →
    slice_get column.plays n ≡ found →
    (n == length_of column) ≡ here → entry_from found (left && here) ≡ Some entry →
    IsPlaced column n entry
by_play column n (Play orders) (Some held) left here is here_is stands =
    elim (slice_get_cases column.plays n).1 [
      | inl at ↦ at.1
      | inr absent ↦ absurd
          (none_is_some held (sym absent.1 ∙ is))
    ]
by_play column n Leave (Some held) left here is here_is stands = absurd cc
by_play column n (Play orders) None true true is here_is stands = absurd cc
by_play column n Leave None true true is here_is stands = eqb-true n (length_of column) here_is
by_play column n entry None true false is here_is stands = absurd cc
by_play column n entry None false here is here_is stands = absurd cc

placed : (column : Column) (n : ℕ) (entry : Entry) → entry_at column n ≡ Some entry →
    IsPlaced column n entry
placed column n entry stands =
    by_play column n entry (slice_get column.plays n) column.left
    (n == length_of column) refl refl stands

reached : (column : Column) (n : ℕ) (entry : Entry) → IsPlaced column n entry → n ≤ length_of column
reached column n (Play orders) at = omega arith
reached column n Leave at = omega arith

not_beyond : (column : Column) (n : ℕ) (entry : Entry) → IsWithinFrames column →
    IsPlaced column n entry → is_beyond n entry ≡ false
not_beyond column n (Play orders) in_match at = grind (arith, nat_tests)
not_beyond column n Leave in_match at = grind (arith, nat_tests)

after_stands :
    (columns : List Column) (a : Arrived) (c n at : ℕ) (here : Bool) (later : Option ℕ) →
    is_after c n a ≡ here → Stands columns a →
    ((k : ℕ) → later ≡ Some k → (n < k) × (k ≤ length_of (column_of columns c))) →
    least_of (frame_if here a) later ≡ Some at →
    (n < at) × (at ≤ length_of (column_of columns c))
after_stands columns a c n at false later is stands rest found = rest at found
after_stands columns a c n at true later is stands rest found =
    let parts = and_parts (a.client == c) (nat_lt n a.frame) is in
    let client : a.client ≡ c = eqb-true a.client c parts.0 in
    let low : n < a.frame = ltb-true n a.frame parts.1 in
    let P : ℕ → Type 0 = λ d. a.frame ≤ length_of (column_of columns d) in
    let high : a.frame ≤ length_of (column_of columns c) =
    subst P client (reached (column_of columns a.client) a.frame a.entry
    (placed (column_of columns a.client) a.frame a.entry stands)) in
    among later rest found low high where
      among :
          (other : Option ℕ) → ((k : ℕ) → other ≡ Some k → (n < k) ×
          (k ≤ length_of (column_of columns c))) →
          least_of (Some a.frame) other ≡ Some at → n < a.frame →
          a.frame ≤ length_of (column_of columns c) →
          (n < at) × (at ≤ length_of (column_of columns c))
      among None rest' found' low high = let same : a.frame ≡ at = cc in (omega arith, omega arith)
      among (Some k) rest' found' low high =
          let same : min a.frame k ≡ at = cc in
          let other = rest' k refl in
          (omega (arith, other.0), omega (arith, other.1))

after_agrees :
    (columns : List Column) (xs : List Arrived) (c n at : ℕ) → AllByRecursion (Stands columns) xs →
    kept_after xs c n ≡ Some at →
    (n < at) × (at ≤ length_of (column_of columns c))
after_agrees columns [] c n at all after = absurd cc
after_agrees columns (a ∷ xs) c n at all after =
    after_stands columns a c n at (is_after c n a) (kept_after xs c n) refl all.0
    (λ k kept. after_agrees columns xs c n k all.1 kept) after

no_left :
    (columns : List Column) (xs : List Arrived) (c n : ℕ) (left : Option ℕ) →
    left_before xs c n ≡ left →
    AllByRecursion (Stands columns) xs → n ≤ length_of (column_of columns c) → left ≡ None
no_left columns xs c n None is all at = refl
no_left columns xs c n (Some k) is all at =
    let stands = left_agrees columns xs c n k all is in
    let here : k ≡ length_of (column_of columns c) =
    placed (column_of columns c) k Leave stands.0 in
    let before : k < n = stands.1 in
    absurd (omega arith)

no_after :
    (columns : List Column) (xs : List Arrived) (c n : ℕ) (after : Option ℕ) →
    kept_after xs c n ≡ after →
    AllByRecursion (Stands columns) xs → n ≡ length_of (column_of columns c) → after ≡ None
no_after columns xs c n None is all at = refl
no_after columns xs c n (Some k) is all at =
    let both = after_agrees columns xs c n k all is in
    let low : n < k = both.0 in
    let high : k ≤ length_of (column_of columns c) = both.1 in
    absurd (omega arith)

no_past :
    (columns : List Column) (xs : List Arrived) (c n : ℕ) (entry : Entry) →
    AllByRecursion (Stands columns) xs →
    IsPlaced (column_of columns c) n entry → past_of xs c n entry ≡ None
no_past columns xs c n (Play orders) all at =
    ap (λ left. option_or left None) (no_left columns xs c n (left_before xs c n) refl all
    (omega arith))
no_past columns xs c n Leave all at =
    ap₂ option_or (no_left columns xs c n (left_before xs c n) refl all (omega arith))
    (no_after columns xs c n (kept_after xs c n) refl all at)

by_kept :
    (columns : List Column) (xs : List Arrived) (c n : ℕ) (entry : Entry) (kept : Option Entry) →
    kept_at xs c n ≡ kept →
    AllByRecursion (Stands columns) xs → entry_at (column_of columns c) n ≡ Some entry →
    past_of xs c n entry ≡ None →
    against kept (past_of xs c n entry) entry ≡ (if is_some kept then Repeat else Kept)
by_kept columns xs c n entry None is all stands past = ap (λ p. against None p entry) past
by_kept columns xs c n entry (Some kept) is all stands past =
    let same : entry ≡ kept = cc (kept_agrees columns xs c n kept all is) in
    ap (λ (b : Bool). if b then Repeat else Conflict kept) ((entry_decides entry kept).1 same)

-- An entry that stands is kept where nothing is kept for its client at its frame, and else it is
-- the one that is kept.
pub delivery_agreed :
    (columns : List Column) (xs : List Arrived) (c n : ℕ) (entry : Entry) →
    IsWithinFrames (column_of columns c) →
    AllByRecursion (Stands columns) xs → entry_at (column_of columns c) n ≡ Some entry →
    delivery_of xs c n entry ≡ (if is_some (kept_at xs c n) then Repeat else Kept)
delivery_agreed columns xs c n entry in_match all stands =
    let at : IsPlaced (column_of columns c) n entry = placed (column_of columns c) n entry stands in
    ap (λ (b : Bool). if b then Beyond else against (kept_at xs c n) (past_of xs c n entry) entry)
    (not_beyond (column_of columns c) n entry in_match at)
    ∙ by_kept columns xs c n entry (kept_at xs c n) refl all stands
    (no_past columns xs c n entry all at)
