-- What has arrived rise, and a delivery keeps them so.
use Rattle.std.proofs.Common.{◌≡◌, ◌≢◌, ℕ, ◌⊎◌, inl, inr, Bool, true, false, cond, ◌==◌, List, []}
use Rattle.std.proofs.Common.{◌∷◌, refl, sym, ap, ap₂, subst, ◌∙◌, arith}
use Rattle.std.specs.Prelude.{if◌then◌else◌, Option, Some, None, Result, Ok, Err, OnOk, OnErr}
use Rattle.std.specs.Option.{option_map}
use Rattle.std.specs.List.{AllByRecursion, find}
use Rattle.std.proofs.lemmas.Bool.{and_parts, eqb-true, eqb-false}
use Rattle.std.proofs.lemmas.Bool.Decides.{nat_tests}
use Rattle.game_orders.specs.declared.entry.Entry.{Entry}
use Rattle.game_orders.specs.Entry.{same_entry}
use Rattle.peer_core.specs.declared.arrived.Arrived.{Arrived}
use Rattle.peer_core.specs.declared.delivered.Delivered.{Delivered}
use Rattle.peer_core.specs.declared.delivered.Delivered.TheVariants.{Kept, Repeat, Conflict, Past}
use Rattle.peer_core.specs.declared.delivered.Delivered.TheVariants.{Beyond}
use Rattle.peer_core.specs.Arrived.{is_of, kept_at, stands_before, with_arrived, IsRising}
use Rattle.peer_core.specs.Delivery.{is_beyond, past_of, against, after_delivery, delivery_of}
use Rattle.peer_core.specs.Delivery.{arrived_after, KeepsEntries}
use Rattle.peer_core.proofs.ArrivedLemmas.{all_with_arrived}

before_trans :
    (a u v : Arrived) → stands_before a u ≡ true → stands_before u v ≡ true →
    stands_before a v ≡ true
before_trans a u v first second = grind (arith, nat_tests)

before_other : (a u : Arrived) → stands_before a u ≡ true → is_of u.client u.frame a ≡ false
before_other a u before = grind (arith, nat_tests)

-- Of two entries of different places the one that doesn't stand before the other stands after it.
before_total : (a u : Arrived) → stands_before a u ≡ false → is_of a.client a.frame u ≡ false →
    stands_before u a ≡ true
before_total a u following other = grind (arith, nat_tests)

-- What is kept after one more entry.
pub kept_step :
    (u : Arrived) (xs : List Arrived) (c n : ℕ) (here : Bool) → is_of c n u ≡ here →
    kept_at (u ∷ xs) c n ≡ (if here then Some u.entry else kept_at xs c n)
kept_step u xs c n true is = ap (λ b. option_map (λ a. a.entry)
    (cond b (Some u) (find (is_of c n) xs))) is
kept_step u xs c n false is = ap (λ b. option_map (λ a. a.entry)
    (cond b (Some u) (find (is_of c n) xs))) is

none_here : (u : Arrived) (xs : List Arrived) (c n : ℕ) (here : Bool) → is_of c n u ≡ here →
    kept_at (u ∷ xs) c n ≡ None → (here ≡ false) × (kept_at xs c n ≡ None)
none_here u xs c n true is none = absurd (let e : Some u.entry ≡ None = sym
    (kept_step u xs c n true is) ∙ none in cc)
none_here u xs c n false is none = (refl, sym (kept_step u xs c n false is) ∙ none)

all_following :
    (a u : Arrived) (xs : List Arrived) → stands_before a u ≡ true →
    AllByRecursion (λ v. stands_before u v ≡ true) xs →
    AllByRecursion (λ v. stands_before a v ≡ true) xs
all_following a u [] before all = tt
all_following a u (v ∷ xs) before all =
    (before_trans a u v before all.0, all_following a u xs before all.1)

rising_by :
    (a u : Arrived) (xs : List Arrived) (before : Bool) → stands_before a u ≡ before →
    IsRising (u ∷ xs) → is_of a.client a.frame u ≡ false →
    IsRising (with_arrived a xs) → IsRising (if before then a ∷ u ∷ xs else u ∷ with_arrived a xs)
rising_by a u xs true is rising other rest = ((is, all_following a u xs is rising.0), rising)
rising_by a u xs false is rising other rest = (
  all_with_arrived (λ v. stands_before u v ≡ true) a xs
      (before_total a u is other) rising.0,
  rest,
)

with_rising : (a : Arrived) (xs : List Arrived) → IsRising xs →
    kept_at xs a.client a.frame ≡ None → IsRising (with_arrived a xs)
with_rising a [] rising none = (tt, tt)
with_rising a (u ∷ xs) rising none =
    let first = none_here u xs a.client a.frame (is_of a.client a.frame u) refl none in
    rising_by a u xs (stands_before a u) refl rising first.0 (with_rising a xs rising.1 first.1)

-- Only where nothing is kept at its place the answer is `Kept`.
kept_new :
    (beyond : Bool) (kept : Option Entry) (past : Option ℕ) (entry : Entry) →
    (if beyond then Beyond else against kept past entry) ≡ Kept → kept ≡ None
kept_new true kept past entry answer = absurd cc
kept_new false None past entry answer = refl
kept_new false (Some held) past entry answer = by_test (same_entry entry held) answer where
  by_test : (same : Bool) → (if same then Repeat else Conflict held) ≡ Kept → Some held ≡ None
  by_test true answer' = absurd cc
  by_test false answer' = absurd cc

pub by_answer :
    (P : List Arrived → Type 0) (answer : Delivered) (a : Arrived) (xs : List Arrived) → P xs →
    (answer ≡ Kept → P (with_arrived a xs)) →
    P (after_delivery answer a xs)
by_answer P Kept a xs before after = after refl
by_answer P Repeat a xs before after = before
by_answer P (Conflict kept) a xs before after = before
by_answer P (Past at) a xs before after = before
by_answer P Beyond a xs before after = before

pub delivered_rising : (xs : List Arrived) (c n : ℕ) (entry : Entry) → IsRising xs →
    IsRising (arrived_after xs c n entry)
delivered_rising xs c n entry rising =
    by_answer IsRising (delivery_of xs c n entry)
    (record { client = c; frame = n; entry = entry }) xs rising
    (λ answer. with_rising (record { client = c; frame = n; entry = entry }) xs rising
    (kept_new (is_beyond n entry) (kept_at xs c n) (past_of xs c n entry) entry answer))

-- A delivery that is out of memory leaves them as they were.
pub either_by :
    (P : List Arrived → Type 0) {A E : Type 0} (result : Result A E)
    (old new more : List Arrived) → OnOk result (new ≡ more) →
    OnErr result (new ≡ old) → P old → P more → P new
either_by P (Ok answer) old new more ok err before after = subst P (sym ok) after
either_by P (Err fault) old new more ok err before after = subst P (sym err) before

-- Each entry is the kept one, since none before it has its place.
all_kept :
    (u : Arrived) (xs all : List Arrived) → AllByRecursion (λ v. stands_before u v ≡ true) all →
    AllByRecursion (λ v. kept_at xs v.client v.frame ≡ Some v.entry) all →
    AllByRecursion (λ v. kept_at (u ∷ xs) v.client v.frame ≡ Some v.entry) all
all_kept u xs [] following all = tt
all_kept u xs (v ∷ more) following all = (
  kept_step u xs v.client v.frame false (before_other u v following.0) ∙ all.0,
  all_kept u xs more following.1 all.1,
)

itself : (a : Arrived) → is_of a.client a.frame a ≡ true
itself a = grind (arith, nat_tests)

pub rising_kept : (xs : List Arrived) → IsRising xs →
    AllByRecursion (λ a. kept_at xs a.client a.frame ≡ Some a.entry) xs
rising_kept [] rising = tt
rising_kept (a ∷ xs) rising = (
  kept_step a xs a.client a.frame true (itself a),
  all_kept a xs xs rising.0
      (rising_kept xs rising.1),
)

-- What is kept with one more entry: at its place it is, and elsewhere nothing changes.
pub kept_with :
    (a : Arrived) (xs : List Arrived) → kept_at xs a.client a.frame ≡ None →
    kept_at (with_arrived a xs) a.client a.frame ≡ Some a.entry
kept_with a [] none = kept_step a [] a.client a.frame true (itself a)
kept_with a (u ∷ xs) none =
    let first = none_here u xs a.client a.frame (is_of a.client a.frame u) refl none in
    elim (stands_before a u) as (λ b. kept_at
    (if b then a ∷ u ∷ xs else u ∷ with_arrived a xs) a.client a.frame ≡ Some a.entry) [
      | true ↦ kept_step a (u ∷ xs) a.client a.frame true (itself a)
      | false ↦ kept_step u (with_arrived a xs) a.client a.frame false first.0
          ∙ kept_with a xs first.1
    ]

same_step :
    (u : Arrived) (xs vs : List Arrived) (c n : ℕ) (here : Bool) → is_of c n u ≡ here →
    kept_at xs c n ≡ kept_at vs c n →
    kept_at (u ∷ xs) c n ≡ kept_at (u ∷ vs) c n
same_step u xs vs c n true is same = kept_step u xs c n true is ∙ sym (kept_step u vs c n true is)
same_step u xs vs c n false is same = kept_step u xs c n false is ∙ same ∙ sym
    (kept_step u vs c n false is)

pub other_with :
    (a : Arrived) (xs : List Arrived) (c n : ℕ) → is_of c n a ≡ false →
    kept_at (with_arrived a xs) c n ≡ kept_at xs c n
other_with a [] c n other = kept_step a [] c n false other
other_with a (u ∷ xs) c n other =
    elim (stands_before a u) as (λ b. kept_at (if b then a ∷ u ∷ xs else u ∷ with_arrived a xs) c n
    ≡ kept_at (u ∷ xs) c n) [
      | true ↦ kept_step a (u ∷ xs) c n false other
      | false ↦ same_step u (with_arrived a xs) xs c n (is_of c n u) refl
          (other_with a xs c n other)
    ]

pub elsewhere : (a : Arrived) (c n : ℕ) → (c ≢ a.client) ⊎ (n ≢ a.frame) → is_of c n a ≡ false
elsewhere a c n (inl other) = grind (arith, nat_tests)
elsewhere a c n (inr other) = grind (arith, nat_tests)

pub place : (a : Arrived) (d m : ℕ) (here : Bool) → is_of d m a ≡ here →
    ((d ≡ a.client) × (m ≡ a.frame)) ⊎ ((d ≢ a.client) ⊎ (m ≢ a.frame))
place a d m true is =
    let parts = and_parts (a.client == d) (a.frame == m) is in
    inl (sym (eqb-true a.client d parts.0), sym (eqb-true a.frame m parts.1))
place a d m false is = by_client (a.client == d) refl where
  by_client : (same : Bool) → (a.client == d) ≡ same →
      ((d ≡ a.client) × (m ≡ a.frame)) ⊎ ((d ≢ a.client) ⊎ (m ≢ a.frame))
  by_client true same = inr (inr (λ equal. absurd
      (let e : is_of d m a ≡ true = grind (arith, nat_tests) in let f : true ≡ false =
      sym e ∙ is in cc)))
  by_client false same = inr (inl (λ equal. eqb-false a.client d same (sym equal)))

with_keeps :
    (a : Arrived) (xs : List Arrived) → delivery_of xs a.client a.frame a.entry ≡ Kept →
    KeepsEntries xs (with_arrived a xs) a.client a.frame a.entry
with_keeps a xs answer =
    let none = kept_new (is_beyond a.frame a.entry) (kept_at xs a.client a.frame)
    (past_of xs a.client a.frame a.entry) a.entry answer in
    record {
      stays = λ d m was at. elim (place a d m (is_of d m a) refl) [
        | inl here ↦ absurd (let e : None ≡ Some was =
            sym none ∙ ap₂ (kept_at xs) (sym here.0) (sym here.1) ∙ at in cc)
        | inr other ↦ other_with a xs d m (elsewhere a d m other) ∙ at
      ];
      kept = λ again. kept_with a xs none;
      unchanged = λ other. absurd (other answer);
      others = λ d m other. other_with a xs d m (elsewhere a d m other);
    }

-- An answer other than `Kept` leaves all as it was.
same_keeps :
    (a : Arrived) (xs : List Arrived) (answer : Delivered) →
    delivery_of xs a.client a.frame a.entry ≡ answer → answer ≢ Kept →
    KeepsEntries xs xs a.client a.frame a.entry
same_keeps a xs answer is other =
    record {
      stays = λ d m was at. at;
      kept = λ kept. absurd (other (sym is ∙ kept));
      unchanged = λ _. refl;
      others = λ d m elsewhere. refl;
    }

keeps_by :
    (a : Arrived) (xs : List Arrived) (answer : Delivered) →
    delivery_of xs a.client a.frame a.entry ≡ answer →
    KeepsEntries xs (after_delivery answer a xs) a.client a.frame a.entry
keeps_by a xs Kept is = with_keeps a xs is
keeps_by a xs Repeat is = same_keeps a xs Repeat is (λ kept. cc)
keeps_by a xs (Conflict held) is = same_keeps a xs (Conflict held) is (λ kept. cc)
keeps_by a xs (Past at) is = same_keeps a xs (Past at) is (λ kept. cc)
keeps_by a xs Beyond is = same_keeps a xs Beyond is (λ kept. cc)

-- What a delivery keeps.
pub delivered_keeps : (xs : List Arrived) (c n : ℕ) (entry : Entry) →
    KeepsEntries xs (arrived_after xs c n entry) c n entry
delivered_keeps xs c n entry = keeps_by (record { client = c; frame = n; entry = entry }) xs
    (delivery_of xs c n entry) refl
