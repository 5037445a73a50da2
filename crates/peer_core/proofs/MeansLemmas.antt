-- What the answer to a delivery says of what was kept, case by case.
use Rattle.std.proofs.Common.{◌≡◌, ◌≢◌, ℕ, ◌<◌, ◌≤◌, ◌⊎◌, inl, inr, Bool, true, false, cond, not}
use Rattle.std.proofs.Common.{◌&&◌, ◌||◌, nat_lt, ◌==◌, List, [], ◌∷◌, refl, sym, ap, ap₂, subst}
use Rattle.std.proofs.Common.{◌∙◌, arith}
use Rattle.std.specs.Prelude.{if◌then◌else◌, min, Option, Some, None, Result, Ok, Err, IfOk}
use Rattle.std.specs.Option.{option_map, option_or}
use Rattle.std.specs.List.{AllByRecursion, find}
use Rattle.std.proofs.lemmas.Bool.{and_parts, or_cases, eqb-true, ltb-true, ltb-false}
use Rattle.std.proofs.lemmas.Bool.Decides.{nat_tests}
use Rattle.game_orders.specs.declared.entry.Entry.{Entry}
use Rattle.game_orders.specs.declared.entry.Entry.TheVariants.{Play, Leave}
use Rattle.game_orders.specs.declared.limits.TheConstants.{MAX_FRAMES}
use Rattle.game_orders.specs.Entry.{is_play, same_entry}
use Rattle.game_orders.specs.EntryEquality.{entry_decides}
use Rattle.peer_core.specs.declared.arrived.Arrived.{Arrived}
use Rattle.peer_core.specs.declared.delivered.Delivered.{Delivered}
use Rattle.peer_core.specs.declared.delivered.Delivered.TheVariants.{Repeat, Conflict, Beyond}
use Rattle.peer_core.specs.Arrived.{is_of, is_left, is_after, kept_at, left_before, kept_after}
use Rattle.peer_core.specs.Arrived.{least_of, frame_if, IsRising}
use Rattle.peer_core.specs.Delivery.{is_beyond, past_of, against, delivery_of}
use Rattle.peer_core.specs.Delivery.{IsInMatch, IsOutside, HasLeftAt, EndsBy, IsNextKept}
use Rattle.peer_core.specs.Delivery.{MeansDelivery}
use Rattle.peer_core.proofs.FaithfulLemmas.{leave_of}
use Rattle.peer_core.proofs.RisingLemmas.{kept_step, rising_kept}
use Rattle.peer_core.proofs.EndedLemmas.{departed}

-- What is found passes the test, and has what each has.
found_step :
    (P : Arrived → Type 0) (test : Arrived → Bool) (u : Arrived) (us : List Arrived) (a : Arrived)
    (here : Bool) → test u ≡ here → P u →
    (find test us ≡ Some a → P a × (test a ≡ true)) → cond here (Some u) (find test us) ≡ Some a →
    P a × (test a ≡ true)
found_step P test u us a true is own rest found =
    let same : u ≡ a = cc in
    subst (λ v. P v × (test v ≡ true)) same (own, is)
found_step P test u us a false is own rest found = rest found

found_has :
    (P : Arrived → Type 0) (test : Arrived → Bool) (us : List Arrived) (a : Arrived) →
    AllByRecursion P us → find test us ≡ Some a →
    P a × (test a ≡ true)
found_has P test [] a all found = absurd cc
found_has P test (u ∷ us) a all found = found_step P test u us a (test u) refl all.0
    (found_has P test us a all.1) found

-- A departure that is found before a frame is kept.
left_by :
    (xs : List Arrived) (c n m : ℕ) (found : Option Arrived) → IsRising xs →
    find (is_left c n) xs ≡ found →
    option_map (λ a. a.frame) found ≡ Some m → HasLeftAt xs c n m
left_by xs c n m None rising is left = absurd cc
left_by xs c n m (Some a) rising is left =
    let both = found_has (λ u. kept_at xs u.client u.frame ≡ Some u.entry) (is_left c n) xs a
    (rising_kept xs rising) is in
    let parts = and_parts (a.client == c) (nat_lt a.frame n && not (is_play a.entry)) both.1 in
    let more = and_parts (nat_lt a.frame n) (not (is_play a.entry)) parts.1 in
    let frame : a.frame ≡ m = cc in (
      subst (λ k. k < n) frame (ltb-true a.frame n more.0),
      ap₂ (kept_at xs) (sym (eqb-true a.client c parts.0)) (sym frame) ∙ both.0
          ∙ ap Some (leave_of a.entry more.1),
    )

pub left_kept : (xs : List Arrived) (c n m : ℕ) → IsRising xs → left_before xs c n ≡ Some m →
    HasLeftAt xs c n m
left_kept xs c n m rising left = left_by xs c n m (find (is_left c n) xs) rising refl left

-- The least frame after a frame is one of those after it.
after_step :
    (Q : ℕ → Type 0) (u : Arrived) (m : ℕ) (here : Bool) (later : Option ℕ) →
    (here ≡ true → Q u.frame) → (later ≡ Some m → Q m) →
    least_of (frame_if here u) later ≡ Some m → Q m
after_step Q u m false later own rest least = rest least
after_step Q u m true None own rest least = let same : u.frame ≡ m = cc in subst Q same (own refl)
after_step Q u m true (Some k) own rest least =
    let is : min u.frame k ≡ m = cc in
    by_test (nat_lt k u.frame) refl is
  where
    by_test : (low : Bool) → nat_lt k u.frame ≡ low → min u.frame k ≡ m → Q m
    by_test true test is =
        let low : k < u.frame = ltb-true k u.frame test in
        let same : k ≡ m = omega (arith, low, is) in
        rest (ap Some same)
    by_test false test is =
        let high : u.frame ≤ k = ltb-false k u.frame test in
        let same : u.frame ≡ m = omega (arith, high, is) in
        subst Q same (own refl)

after_has :
    (P : Arrived → Type 0) (Q : ℕ → Type 0) (us : List Arrived) (c n m : ℕ) →
    ((a : Arrived) → P a → is_after c n a ≡ true → Q a.frame) →
    AllByRecursion P us → kept_after us c n ≡ Some m → Q m
after_has P Q [] c n m each all least = absurd cc
after_has P Q (u ∷ us) c n m each all least =
    after_step Q u m (is_after c n u) (kept_after us c n) (each u all.0)
    (after_has P Q us c n m each all.1) least

-- The number is there, and at most k.
abbrev IsUpTo : Option ℕ → ℕ → Type 0
IsUpTo None k = ⊥
IsUpTo (Some m) k = m ≤ k

least_up_to : (one later : Option ℕ) (k : ℕ) → IsUpTo one k ⊎ IsUpTo later k →
    IsUpTo (least_of one later) k
least_up_to None later k (inl never) = absurd never
least_up_to None later k (inr up) = up
least_up_to (Some i) None k (inl up) = up
least_up_to (Some i) None k (inr never) = absurd never
least_up_to (Some i) (Some j) k (inl up) = let low : i ≤ k = up in omega (arith, low)
least_up_to (Some i) (Some j) k (inr up) = let low : j ≤ k = up in omega (arith, low)

up_to_step :
    (a : Arrived) (xs : List Arrived) (c n k : ℕ) (was : Entry) (here : Bool) →
    is_of c k a ≡ here → n < k →
    kept_at (a ∷ xs) c k ≡ Some was → (kept_at xs c k ≡ Some was → IsUpTo (kept_after xs c n) k) →
    IsUpTo (frame_if (is_after c n a) a) k ⊎ IsUpTo (kept_after xs c n) k
up_to_step a xs c n k was true is above kept rest =
    let frame : a.frame ≡ k = eqb-true a.frame k (and_parts (a.client == c) (a.frame == k) is).1 in
    let counts : is_after c n a ≡ true = grind (arith, nat_tests) in
    let low : a.frame ≤ k = omega (arith, frame) in
    inl (subst (λ b. IsUpTo (frame_if b a) k) (sym counts) low)
up_to_step a xs c n k was false is above kept rest =
    inr (rest (sym (kept_step a xs c k false is) ∙ kept))

-- No frame after a frame at which something is kept is before the least.
up_to : (xs : List Arrived) (c n k : ℕ) (was : Entry) → n < k → kept_at xs c k ≡ Some was →
    IsUpTo (kept_after xs c n) k
up_to [] c n k was above kept = absurd (let e : None ≡ Some was = kept in cc)
up_to (a ∷ xs) c n k was above kept =
    least_up_to (frame_if (is_after c n a) a) (kept_after xs c n) k
    (up_to_step a xs c n k was (is_of c k a) refl above kept (up_to xs c n k was above))

ends_by :
    (xs : List Arrived) (c n k : ℕ) (kept : Option Entry) → kept_at xs c k ≡ kept → n < k →
    (IsUpTo (kept_after xs c n) k → ⊥) →
    kept_at xs c k ≡ None
ends_by xs c n k None is above never = is
ends_by xs c n k (Some was) is above never = absurd (never (up_to xs c n k was above is))

ends : (xs : List Arrived) (c n : ℕ) → kept_after xs c n ≡ None → EndsBy xs c n
ends xs c n none m above =
    ends_by xs c n m (kept_at xs c m) refl above (λ up. subst (λ later. IsUpTo later m) none up)

next_kept : (xs : List Arrived) (c n m : ℕ) → IsRising xs → kept_after xs c n ≡ Some m →
    IsNextKept xs c n m
next_kept xs c n m rising after =
    let P : Arrived → Type 0 = λ a. kept_at xs a.client a.frame ≡ Some a.entry in
    let Q : ℕ → Type 0 = λ k. (n < k) × (kept_at xs c k ≢ None) in
    let at : Q m = after_has P Q xs c n m (λ a kept is. own a kept
    (and_parts (a.client == c) (nat_lt n a.frame) is)) (rising_kept xs rising) after in (
      at.0,
      at.1,
      λ k above below.
          ends_by xs c n k (kept_at xs c k) refl above
          (λ up. let least : m ≤ k = subst (λ later. IsUpTo later k) after up in absurd
          (omega (arith, least, below))),
    )
  where
    own :
        (a : Arrived) → kept_at xs a.client a.frame ≡ Some a.entry →
        ((a.client == c) ≡ true) × (nat_lt n a.frame ≡ true) →
        (n < a.frame) × (kept_at xs c a.frame ≢ None)
    own a kept parts = (
      ltb-true n a.frame parts.1,
      λ none.
          let same : None ≡ Some a.entry = sym none ∙ ap (λ d. kept_at xs d a.frame)
          (sym (eqb-true a.client c parts.0)) ∙ kept in
          cc,
    )

-- Whether a match has the frame.
outside : (n : ℕ) (e : Entry) → is_beyond n e ≡ true → IsOutside n e
outside n e is =
    elim (or_cases (nat_lt MAX_FRAMES n) ((n == MAX_FRAMES) && is_play e) is) [
      | inl above ↦ inl (ltb-true MAX_FRAMES n above)
      | inr top ↦ let parts = and_parts (n == MAX_FRAMES) (is_play e) top in inr
          (eqb-true n MAX_FRAMES parts.0, parts.1)
    ]

in_match_by :
    (n : ℕ) (e : Entry) (above top : Bool) → nat_lt MAX_FRAMES n ≡ above → (n == MAX_FRAMES) ≡ top →
    (above || (top && is_play e)) ≡ false → IsInMatch n e
in_match_by n e true top above_is top_is is = absurd cc
in_match_by n (Play orders) false true above_is top_is is = absurd cc
in_match_by n Leave false true above_is top_is is = inr (eqb-true n MAX_FRAMES top_is, refl)
in_match_by n e false false above_is top_is is = inl (grind (arith, nat_tests))

-- The answer where an entry is kept at the frame.
kept_means :
    (xs : List Arrived) (c n : ℕ) (e kept : Entry) (same : Bool) → kept_at xs c n ≡ Some kept →
    same_entry e kept ≡ same →
    MeansDelivery xs c n e (if same then Repeat else Conflict kept)
kept_means xs c n e kept true at is = at ∙ ap Some (sym ((entry_decides e kept).0 is))
kept_means xs c n e kept false at is = (
  at,
  λ same. let yes : same_entry e kept ≡ true =
      (entry_decides e kept).1 (sym same) in cc,
)

-- The answer where none is.
free_means :
    (xs : List Arrived) (c n : ℕ) (e : Entry) (left after : Option ℕ) → IsRising xs →
    IsInMatch n e → kept_at xs c n ≡ None →
    left_before xs c n ≡ left → kept_after xs c n ≡ after →
    MeansDelivery xs c n e (against None (option_or left (if is_play e then None else after)) e)
free_means xs c n e (Some m) after rising in_match none left_is after_is =
    (none, inl (left_kept xs c n m rising left_is))
free_means xs c n (Play orders) None after rising in_match none left_is after_is =
    (in_match, none, λ m before leave. departed xs c m n before leave left_is, λ leave. absurd cc)
free_means xs c n Leave None None rising in_match none left_is after_is =
    (in_match, none, λ m before leave. departed xs c m n before leave left_is, λ leave. ends xs c n after_is)
free_means xs c n Leave None (Some m) rising in_match none left_is after_is =
    (none, inr (refl, next_kept xs c n m rising after_is))

means_by :
    (xs : List Arrived) (c n : ℕ) (e : Entry) (beyond : Bool) (kept : Option Entry) → IsRising xs →
    is_beyond n e ≡ beyond →
    kept_at xs c n ≡ kept → MeansDelivery xs c n e
    (if beyond then Beyond else against kept (past_of xs c n e) e)
means_by xs c n e true kept rising beyond_is kept_is = outside n e beyond_is
means_by xs c n e false (Some kept) rising beyond_is kept_is =
    kept_means xs c n e kept (same_entry e kept) kept_is refl
means_by xs c n e false None rising beyond_is kept_is =
    free_means xs c n e (left_before xs c n) (kept_after xs c n) rising
    (in_match_by n e (nat_lt MAX_FRAMES n) (n == MAX_FRAMES) refl refl beyond_is) kept_is refl refl

-- The answer to a delivery says of what was kept what it should.
pub delivery_means : (xs : List Arrived) (c n : ℕ) (e : Entry) → IsRising xs →
    MeansDelivery xs c n e (delivery_of xs c n e)
delivery_means xs c n e rising = means_by xs c n e (is_beyond n e) (kept_at xs c n) rising refl refl

-- So it does in an outcome that may be out of memory.
pub outcome_means :
    {E : Type 0} (result : Result Delivered E) (xs : List Arrived) (c n : ℕ) (e : Entry) →
    IsRising xs →
    IfOk result (λ answer. answer ≡ delivery_of xs c n e) →
    IfOk result (λ answer. MeansDelivery xs c n e answer)
outcome_means (Ok answer) xs c n e rising is =
    let P : Delivered → Type 0 = MeansDelivery xs c n e in
    subst P (sym is) (delivery_means xs c n e rising)
outcome_means (Err fault) xs c n e rising is = tt
