-- The calls of the index by owner and kind, over its entries.
use Rattle.std.proofs.Common.{◌≡◌, ℕ, zero, suc, ◌+◌, ◌*◌, ◌<◌, ◌≤◌, ltb, Bool, true, false, List, [], ◌∷◌, length, get_or, take, drop, inl, inr, refl, subst, ap, arith}
use Rattle.std.specs.List.{filter, insert, AllByRecursion}
use Rattle.std.specs.List.Sorted.{IsPartitionPoint}
use Rattle.std.proofs.lemmas.Bool.Decides.{nat_tests}
use Rattle.std.proofs.lemmas.List.Edits.{length-insert}
use Rattle.std.proofs.lemmas.List.Elements.{All-append, All-cons, All-take, All-drop, All-filter}
use Rattle.std.proofs.lemmas.List.Kept.{IsNonDecreasingBy-filter}
use Rattle.std.proofs.lemmas.List.Sorted.{IsNonDecreasingBy-insert}
use Rattle.game_model.specs.declared.limits.TheConstants.{MAX_ACTORS}
use Rattle.actor_table.specs.Kinds.{is_listed, rank_of, IsEntry, IsSortedIndex}
use Rattle.actor_table.specs.declared.listed.Listed.{Listed}
use Rattle.actor_table.proofs.Holders.{bool_cases}
use Rattle.actor_table.proofs.KindLists.{IsRankGap}

-- the entries below a rank end at a place
pub record EndsAt (rank : ℕ) (xs : List Listed) (at : ℕ) : Type 0 where
  pub before : (k : ℕ) (d : Listed) → k < at → k < length xs → rank_of (get_or xs k d) < rank
  pub after : (k : ℕ) (d : Listed) → at ≤ k → k < length xs → rank ≤ rank_of (get_or xs k d)

pub ltb_true : (a b : ℕ) → ltb a b ≡ true → a < b
ltb_true a b met = grind (arith, nat_tests)

pub ltb_false : (a b : ℕ) → ltb a b ≡ false → b ≤ a
ltb_false a b fails = grind (arith, nat_tests)

pub ends_from_point : (rank : ℕ) (xs : List Listed) (at : ℕ) → IsPartitionPoint (λ (e : Listed). ltb (rank_of e) rank ≡ true) (λ (e : Listed). ltb (rank_of e) rank ≡ false) xs at → EndsAt rank xs at
ends_from_point rank xs at point =
    record {
      before = λ k d lt within. ltb_true _ _ (point.0 k d (omega arith) lt);
      after = λ k d le within. ltb_false _ _ (point.1 k d le within);
    }

next_ends : (rank : ℕ) (x : Listed) (xs : List Listed) (at : ℕ) → EndsAt rank (x ∷ xs) (suc at) → EndsAt rank xs at
next_ends rank x xs at ends =
    record {
      before = λ k d lt within. ends.before (suc k) d (omega arith) (omega arith);
      after = λ k d le within. ends.after (suc k) d (omega arith) (omega arith);
    }

next_none : (rank : ℕ) (x : Listed) (xs : List Listed) → EndsAt rank (x ∷ xs) zero → EndsAt rank xs zero
next_none rank x xs ends =
    record {
      before = λ k d lt within. absurd (omega arith);
      after = λ k d le within. ends.after (suc k) d (omega arith) (omega arith);
    }

pub gap_from_ends : (e : Listed) (xs : List Listed) (at : ℕ) → EndsAt (rank_of e) xs at → IsRankGap e xs at
gap_from_ends e [] zero ends = record { before = tt; after = tt }
gap_from_ends e [] (suc at) ends = record { before = tt; after = tt }
gap_from_ends e (x ∷ xs) zero ends =
    let rest = gap_from_ends e xs zero (next_none (rank_of e) x xs ends) in
    record { before = tt; after = (ends.after 0 x (omega arith) (omega arith), rest.after) }
gap_from_ends e (x ∷ xs) (suc at) ends =
    let rest = gap_from_ends e xs at (next_ends (rank_of e) x xs at ends) in
    record { before = (ends.before 0 x (omega arith) (omega arith), rest.before); after = rest.after }

pub sorted_after_insert : (room space : ℕ) (xs : List Listed) (at : ℕ) (e : Listed) → IsSortedIndex room xs → room ≤ space → at ≤ length xs → EndsAt (rank_of e) xs at → IsEntry e → length xs < MAX_ACTORS → IsSortedIndex space (insert xs at e)
sorted_after_insert room space xs at e old more within ends fits below =
    record {
      sorted = IsNonDecreasingBy-insert rank_of xs at e old.sorted within (λ k d lt. omega (arith, ends.before k d lt (omega arith))) (λ k d le lt. ends.after k d le lt);
      fit = All-append IsEntry (take at xs) (e ∷ drop at xs) (All-take IsEntry at xs old.fit) (All-cons IsEntry e (drop at xs) fits (All-drop IsEntry at xs old.fit));
      limit = omega (arith, length-insert xs at e within);
      enough = omega (arith, old.enough);
    }

pub sorted_after_filter : (room space : ℕ) (test : Listed → Bool) (xs : List Listed) → IsSortedIndex room xs → room ≤ space → length (filter test xs) ≤ length xs → IsSortedIndex space (filter test xs)
sorted_after_filter room space test xs old more fewer =
    record {
      sorted = IsNonDecreasingBy-filter rank_of test xs old.sorted;
      fit = All-filter test IsEntry xs old.fit;
      limit = omega (arith, old.limit);
      enough = omega (arith, old.enough);
    }

-- the ranks of an owner and a kind lie between two numbers, and no other ranks do
abbrev pub first_rank : (owner kind : ℕ) → ℕ
first_rank owner kind = (owner * 65536 + kind) * 4294967296 + 0

listed_between : (owner kind : ℕ) (x : Listed) → kind < 65536 → IsEntry x → first_rank owner kind ≤ rank_of x → rank_of x < first_rank owner kind + 4294967296 → is_listed owner kind x ≡ true
listed_between owner kind x small fits low high =
    let same : x.owner * 65536 + x.kind ≡ owner * 65536 + kind = omega (arith, fits.id) in
    let owners : x.owner ≡ owner = omega (arith, fits.kind) in
    let kinds : x.kind ≡ kind = omega arith in
    grind (arith, nat_tests)

not_listed_below : (owner kind : ℕ) (x : Listed) → rank_of x < first_rank owner kind → is_listed owner kind x ≡ false
not_listed_below owner kind x low = elim (bool_cases (is_listed owner kind x)) [
  | inl met ↦ absurd (clash (grind (arith, nat_tests)) (grind (arith, nat_tests)))
  | inr fails ↦ fails
]
  where
    clash : x.owner ≡ owner → x.kind ≡ kind → ⊥
    clash owners kinds = omega arith

not_listed_above : (owner kind : ℕ) (x : Listed) → IsEntry x → first_rank owner kind + 4294967296 ≤ rank_of x → is_listed owner kind x ≡ false
not_listed_above owner kind x fits high = elim (bool_cases (is_listed owner kind x)) [
  | inl met ↦ absurd (clash (grind (arith, nat_tests)) (grind (arith, nat_tests)))
  | inr fails ↦ fails
]
  where
    clash : x.owner ≡ owner → x.kind ≡ kind → ⊥
    clash owners kinds = omega (arith, fits.id)

pub listed_part : (owner kind : ℕ) (xs : List Listed) (from count : ℕ) → kind < 65536 → AllByRecursion IsEntry xs → EndsAt (first_rank owner kind) xs from → EndsAt (first_rank owner kind + 4294967296) xs (from + count) → take count (drop from xs) ≡ filter (is_listed owner kind) xs
listed_part owner kind [] zero zero small fit low high = refl
listed_part owner kind [] zero (suc count) small fit low high = refl
listed_part owner kind [] (suc from) zero small fit low high = refl
listed_part owner kind [] (suc from) (suc count) small fit low high = refl
listed_part owner kind (x ∷ xs) zero zero small fit low high =
    let above = high.after 0 x (omega arith) (omega arith) in
    rw (not_listed_above owner kind x fit.0 above) (listed_part owner kind xs zero zero small fit.1 (next_none _ x xs low) (next_none _ x xs (subst (EndsAt _ (x ∷ xs)) {x = zero + zero} (omega arith) high)))
listed_part owner kind (x ∷ xs) zero (suc count) small fit low high =
    let above = low.after 0 x (omega arith) (omega arith) in
    let below = high.before 0 x (omega arith) (omega arith) in
    rw (listed_between owner kind x small fit.0 above below) (ap (λ ys. x ∷ ys) (listed_part owner kind xs zero count small fit.1 (next_none _ x xs low) (next_ends _ x xs (zero + count) (subst (EndsAt _ (x ∷ xs)) {x = zero + suc count} (omega arith) high))))
listed_part owner kind (x ∷ xs) (suc from) count small fit low high =
    let below = low.before 0 x (omega arith) (omega arith) in
    rw (not_listed_below owner kind x below) (listed_part owner kind xs from count small fit.1 (next_ends _ x xs from low) (next_ends _ x xs (from + count) (subst (EndsAt _ (x ∷ xs)) {x = suc from + count} (omega arith) high)))

-- the lower place does not lie after the higher one
pub places_in_order : (low high : ℕ) (xs : List Listed) (from to : ℕ) (d : Listed) → low ≤ high → from ≤ length xs → EndsAt low xs from → EndsAt high xs to → from ≤ to
places_in_order low high xs from to d le within ends later = elim (bool_cases (ltb to from)) [
  | inl met ↦ clash (ltb_true to from met)
  | inr fails ↦ ltb_false to from fails
]
  where
    clash : to < from → from ≤ to
    clash lt = omega (arith, ends.before to d lt (omega arith), later.after to d (omega arith) (omega arith))
