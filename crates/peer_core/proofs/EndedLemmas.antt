-- After a departure nothing of its client is kept, and a delivery keeps it so.
use Rattle.std.proofs.Common.{◌≡◌, ℕ, ◌<◌, inl, inr, Bool, true, false, cond, not, ◌&&◌, nat_lt}
use Rattle.std.proofs.Common.{◌==◌, List, [], ◌∷◌, refl, sym, ap, ap₂, ◌∙◌, arith}
use Rattle.std.specs.Prelude.{if◌then◌else◌, Option, Some, None}
use Rattle.std.specs.Option.{option_map, option_or}
use Rattle.std.specs.List.{AllByRecursion, find}
use Rattle.std.proofs.lemmas.Bool.{and_parts, and_from, eqb-true, ltb-true}
use Rattle.std.proofs.lemmas.Bool.Decides.{nat_tests}
use Rattle.game_orders.specs.declared.entry.Entry.{Entry}
use Rattle.game_orders.specs.declared.entry.Entry.TheVariants.{Play, Leave}
use Rattle.game_orders.specs.Entry.{is_play, same_entry}
use Rattle.peer_core.specs.declared.arrived.Arrived.{Arrived}
use Rattle.peer_core.specs.declared.delivered.Delivered.TheVariants.{Kept, Repeat, Conflict, Beyond}
use Rattle.peer_core.specs.Arrived.{is_of, is_left, is_after, kept_at, left_before, kept_after}
use Rattle.peer_core.specs.Arrived.{least_of, frame_if, with_arrived, IsEnded}
use Rattle.peer_core.specs.Delivery.{is_beyond, past_of, against, delivery_of, arrived_after}
use Rattle.peer_core.proofs.ArrivedLemmas.{all_with_arrived}
use Rattle.peer_core.proofs.RisingLemmas.{kept_step, kept_with, other_with, elsewhere, place}
use Rattle.peer_core.proofs.RisingLemmas.{by_answer}

-- Nothing is kept after a frame exactly where no entry is one after it.
no_least : (one later : Option ℕ) → least_of one later ≡ None → (one ≡ None) × (later ≡ None)
no_least None None none = (refl, refl)
no_least None (Some m) none = absurd cc
no_least (Some n) None none = absurd cc
no_least (Some n) (Some m) none = absurd cc

not_tested : (here : Bool) (a : Arrived) → frame_if here a ≡ None → here ≡ false
not_tested true a none = absurd cc
not_tested false a none = refl

none_after : (xs : List Arrived) (c n : ℕ) → kept_after xs c n ≡ None →
    AllByRecursion (λ a. is_after c n a ≡ false) xs
none_after [] c n none = tt
none_after (a ∷ xs) c n none =
    let parts = no_least (frame_if (is_after c n a) a) (kept_after xs c n) none in
    (not_tested (is_after c n a) a parts.0, none_after xs c n parts.1)

after_none : (xs : List Arrived) (c n : ℕ) → AllByRecursion (λ a. is_after c n a ≡ false) xs →
    kept_after xs c n ≡ None
after_none [] c n all = refl
after_none (a ∷ xs) c n all =
    ap (λ b. least_of (frame_if b a) (kept_after xs c n)) all.0 ∙ after_none xs c n all.1

leaves : (entry : Entry) → entry ≡ Leave → not (is_play entry) ≡ true
leaves (Play orders) is = absurd cc
leaves Leave is = refl

left_step : (u : Arrived) (xs : List Arrived) (c n : ℕ) (here : Bool) → is_left c n u ≡ here →
    left_before (u ∷ xs) c n ≡ None → (here ≡ false) × (left_before xs c n ≡ None)
left_step u xs c n true is none =
    absurd (let e : Some u.frame ≡ None = sym
    (ap (λ b. option_map (λ a. a.frame) (cond b (Some u) (find (is_left c n) xs))) is)
    ∙ none in cc)
left_step u xs c n false is none = (
  refl,
  sym
      (ap (λ b. option_map (λ a. a.frame) (cond b (Some u) (find (is_left c n) xs))) is) ∙ none,
)

-- A departure that is kept before a frame is found.
departed_by :
    (u : Arrived) (xs : List Arrived) (c m n : ℕ) (here : Bool) → is_of c m u ≡ here → m < n →
    kept_at (u ∷ xs) c m ≡ Some Leave →
    left_before (u ∷ xs) c n ≡ None → (kept_at xs c m ≡ Some Leave → left_before xs c n ≡ None →
    ⊥) → ⊥
departed_by u xs c m n true is before leave none rest =
    let same : u.entry ≡ Leave = let e : Some u.entry ≡ Some Leave =
    sym (kept_step u xs c m true is) ∙ leave in cc in
    let parts = and_parts (u.client == c) (u.frame == m) is in
    let frame : u.frame ≡ m = eqb-true u.frame m parts.1 in
    let low : nat_lt u.frame n ≡ true = grind (arith, nat_tests) in
    let left : is_left c n u ≡ true = and_from (u.client == c)
    (nat_lt u.frame n && not (is_play u.entry)) parts.0
    (and_from (nat_lt u.frame n) (not (is_play u.entry)) low (leaves u.entry same)) in
    let never : true ≡ false = sym left ∙ (left_step u xs c n (is_left c n u) refl none).0 in
    absurd cc
departed_by u xs c m n false is before leave none rest =
    rest (sym (kept_step u xs c m false is) ∙ leave)
    (left_step u xs c n (is_left c n u) refl none).1

pub departed : (xs : List Arrived) (c m n : ℕ) → m < n → kept_at xs c m ≡ Some Leave →
    left_before xs c n ≡ None → ⊥
departed [] c m n before leave none = absurd (let e : None ≡ Some Leave = leave in cc)
departed (u ∷ xs) c m n before leave none =
    departed_by u xs c m n (is_of c m u) refl before leave none (departed xs c m n before)

-- What the answer `Kept` means.
pub no_past :
    (beyond : Bool) (kept : Option Entry) (past : Option ℕ) (entry : Entry) →
    (if beyond then Beyond else against kept past entry) ≡ Kept → (kept ≡ None) × (past ≡ None)
no_past true kept past entry answer = absurd cc
no_past false None None entry answer = (refl, refl)
no_past false None (Some at) entry answer = absurd cc
no_past false (Some held) past entry answer = by_test (same_entry entry held) answer where
  by_test : (same : Bool) → (if same then Repeat else Conflict held) ≡ Kept →
      (Some held ≡ None) × (past ≡ None)
  by_test true answer' = absurd cc
  by_test false answer' = absurd cc

neither : (one other : Option ℕ) → option_or one other ≡ None → (one ≡ None) × (other ≡ None)
neither None other none = (refl, none)
neither (Some n) other none = absurd cc

past_parts :
    (entry : Entry) (left after : Option ℕ) →
    option_or left (if is_play entry then None else after) ≡ None →
    (left ≡ None) × (entry ≡ Leave → after ≡ None)
past_parts (Play orders) left after none = ((neither left None none).0, λ leave. absurd cc)
past_parts Leave left after none = let both = neither left after none in (both.0, λ leave. both.1)

-- A departure of another place, before the new entry, would have been found.
none_later :
    (a : Arrived) (xs : List Arrived) (d m : ℕ) (after : Bool) → is_after d m a ≡ after →
    kept_at xs d m ≡ Some Leave →
    left_before xs a.client a.frame ≡ None → is_after d m a ≡ false
none_later a xs d m false is leave none = is
none_later a xs d m true is leave none =
    let parts = and_parts (a.client == d) (nat_lt m a.frame) is in
    let client : a.client ≡ d = eqb-true a.client d parts.0 in
    absurd (departed xs a.client m a.frame (ltb-true m a.frame parts.1)
    (ap (λ c. kept_at xs c m) client ∙ leave) none)

not_itself : (a : Arrived) → is_after a.client a.frame a ≡ false
not_itself a = grind (arith, nat_tests)

with_ended :
    (a : Arrived) (xs : List Arrived) → IsEnded xs →
    delivery_of xs a.client a.frame a.entry ≡ Kept → IsEnded (with_arrived a xs)
with_ended a xs ended answer d m leave =
    let fresh = no_past (is_beyond a.frame a.entry) (kept_at xs a.client a.frame)
    (past_of xs a.client a.frame a.entry) a.entry answer in
    let parts = past_parts a.entry (left_before xs a.client a.frame)
    (kept_after xs a.client a.frame) fresh.1 in
    after_none (with_arrived a xs) d m (elim (place a d m (is_of d m a) refl) [
      | inl here ↦
          let own : kept_at (with_arrived a xs) a.client a.frame ≡ Some Leave =
          ap₂ (kept_at (with_arrived a xs)) (sym here.0) (sym here.1) ∙ leave in
          let same : a.entry ≡ Leave = let e : Some a.entry ≡ Some Leave =
          sym (kept_with a xs fresh.0) ∙ own in cc in
          all_with_arrived (λ u. is_after d m u ≡ false) a xs
          (ap₂ (λ c n. is_after c n a) here.0 here.1 ∙ not_itself a)
          (none_after xs d m (ap₂ (kept_after xs) here.0 here.1 ∙ parts.1 same))
      | inr other ↦
          let before : kept_at xs d m ≡ Some Leave =
          sym (other_with a xs d m (elsewhere a d m other)) ∙ leave in
          all_with_arrived (λ u. is_after d m u ≡ false) a xs
          (none_later a xs d m (is_after d m a) refl before parts.0)
          (none_after xs d m (ended d m before))
    ])

pub delivered_ended : (xs : List Arrived) (c n : ℕ) (entry : Entry) → IsEnded xs →
    IsEnded (arrived_after xs c n entry)
delivered_ended xs c n entry ended =
    by_answer IsEnded (delivery_of xs c n entry)
    (record { client = c; frame = n; entry = entry }) xs ended
    (λ answer. with_ended (record { client = c; frame = n; entry = entry }) xs ended answer)
