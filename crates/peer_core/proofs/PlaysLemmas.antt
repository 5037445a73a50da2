-- The plays of one client: a column, and after its gap a map.
use Rattle.std.proofs.Common.{◌≡◌, ◌≢◌, ℕ, zero, suc, ◌+◌, ◌<◌, ◌≤◌, Bool, true, false, cond}
use Rattle.std.proofs.Common.{nat_lt, ◌==◌, List, [], ◌∷◌, ◌++◌, length, map, refl, sym, ap}
use Rattle.std.proofs.Common.{◌∙◌, arith, append_assoc, Less, Equal, Greater, subst, ◌&&◌, inl}
use Rattle.std.proofs.Common.{inr}
use Rattle.std.specs.Prelude.{if◌then◌else◌, Some, None, slice_get}
use Rattle.std.specs.Option.{option_map}
use Rattle.std.specs.List.{AllByRecursion, find}
use Rattle.std.specs.Map.{lookup}
use Rattle.std.specs.Ordering.{nat_cmp, is_eq, is_le, match_ordering}
use Rattle.std.specs.BTreeMap.{insert_entry, is_at}
use Rattle.std.specs.BTreeMap.Range.{entries_between}
use Rattle.std.specs.declared.ops.Bound.TheVariants.{Included, Unbounded}
use Rattle.std.proofs.lemmas.Option.{slice_get_cases}
use Rattle.std.proofs.lemmas.List.{length_push}
use Rattle.std.proofs.lemmas.Bool.Decides.{nat_tests}
use Rattle.game_orders.specs.declared.order.Order.{Order}
use Rattle.peer_core.specs.Entries.{KeptPlay, column_plays, early_play, stored_plays, IsAbove}
use Rattle.peer_core.specs.Entries.{IsFrom, IsElsewhere, IsByFrame, play_at, play_after, with_play}

-- The plays after a column's gap.
pub above_next : (n : ℕ) (early : List (ℕ × List Order)) → IsAbove n early → IsFrom (n + 1) early
above_next n [] above = tt
above_next n (e ∷ early) above = (let low : n < e.0 = above.0 in omega arith, above.1)

pub from_elsewhere : (n : ℕ) (early : List (ℕ × List Order)) → IsFrom n early →
    IsElsewhere n early → IsAbove n early
from_elsewhere n [] from other = tt
from_elsewhere n (e ∷ early) from other =
    (let low : n ≤ e.0 = from.0 in let apart : e.0 ≢ n = other in omega (arith, low, apart), from.1)

-- One more play at the end of a column.
column_more :
    (k : ℕ) (column : List (List Order)) (orders : List Order) →
    column_plays k (column ++ orders ∷ []) ≡ column_plays k column
    ++ record { frame = k + length column; orders = orders } ∷ []
column_more k [] orders =
    let same : k ≡ k + 0 = omega arith in
    ap (λ n. record { frame = n; orders = orders } ∷ []) same
column_more k (first ∷ column) orders =
    let same : (k + 1) + length column ≡ k + suc (length column) = omega arith in
    ap (λ more. record { frame = k; orders = first } ∷ more) (column_more (k + 1) column orders
    ∙ ap (λ n. column_plays (k + 1) column ++ record { frame = n; orders = orders } ∷ []) same)

pub moved :
    (column : List (List Order)) (orders : List Order) (early : List (ℕ × List Order)) →
    stored_plays (column ++ orders ∷ []) early ≡ stored_plays column
    ((length column, orders) ∷ early)
moved column orders early =
    let same : 0 + length column ≡ length column = omega arith in
    ap (λ plays. plays ++ map early_play early) (column_more 0 column orders
    ∙ ap (λ n. column_plays 0 column ++ record { frame = n; orders = orders } ∷ []) same)
    ∙ append_assoc (column_plays 0 column) (record { frame = length column; orders = orders } ∷ [])
    (map early_play early)

-- What stands at a frame.
column_at :
    (k n : ℕ) (column : List (List Order)) (rest : List KeptPlay) → n < length column →
    play_at (column_plays k column ++ rest) (k + n) ≡ slice_get column n
column_at k n [] rest below = absurd (omega arith)
column_at k zero (orders ∷ column) rest below =
    let here : (k == k + 0) ≡ true = grind (arith, nat_tests) in
    ap (λ b. option_map (λ (p : KeptPlay). p.orders)
    (cond b (Some (record { frame = k; orders = orders }))
    (find (λ p. p.frame == k + 0) (column_plays (k + 1) column ++ rest)))) here
column_at k (suc n) (orders ∷ column) rest below =
    let other : (k == k + suc n) ≡ false = grind (arith, nat_tests) in
    let same : k + suc n ≡ (k + 1) + n = omega arith in
    ap (λ b. option_map (λ (p : KeptPlay). p.orders)
    (cond b (Some (record { frame = k; orders = orders }))
    (find (λ p. p.frame == k + suc n) (column_plays (k + 1) column ++ rest)))) other
    ∙ ap (play_at (column_plays (k + 1) column ++ rest)) same
    ∙ column_at (k + 1) n column rest (omega arith)

column_past :
    (k n : ℕ) (column : List (List Order)) (rest : List KeptPlay) → k + length column ≤ n →
    play_at (column_plays k column ++ rest) n ≡ play_at rest n
column_past k n [] rest past = refl
column_past k n (orders ∷ column) rest past =
    let other : (k == n) ≡ false = grind (arith, nat_tests) in
    ap (λ b. option_map (λ (p : KeptPlay). p.orders)
    (cond b (Some (record { frame = k; orders = orders }))
    (find (λ p. p.frame == n) (column_plays (k + 1) column ++ rest)))) other
    ∙ column_past (k + 1) n column rest (omega arith)

same_test : (n k : ℕ) → is_eq (nat_cmp n k) ≡ (k == n)
same_test n k = by_tests (nat_lt n k) (n == k) (k == n) refl refl refl where
  by_tests :
      (low same other : Bool) → nat_lt n k ≡ low → (n == k) ≡ same → (k == n) ≡ other →
      is_eq (cond low Less (cond same Equal Greater)) ≡ other
  by_tests true same true low_is same_is other_is = absurd (grind (arith, nat_tests))
  by_tests true same false low_is same_is other_is = refl
  by_tests false true true low_is same_is other_is = refl
  by_tests false true false low_is same_is other_is = absurd (grind (arith, nat_tests))
  by_tests false false true low_is same_is other_is = absurd (grind (arith, nat_tests))
  by_tests false false false low_is same_is other_is = refl

early_at : (early : List (ℕ × List Order)) (n : ℕ) →
    play_at (map early_play early) n ≡ lookup (is_at (nat_cmp n)) early
early_at [] n = refl
early_at (e ∷ early) n =
    by_test (e.0 == n) (early_at early n)
    ∙ sym (ap (λ b. cond b (Some e.1) (lookup (is_at (nat_cmp n)) early)) (same_test n e.0)) where
      by_test :
          (here : Bool) → play_at (map early_play early) n ≡ lookup (is_at (nat_cmp n)) early →
          option_map (λ (p : KeptPlay). p.orders)
          (cond here (Some (early_play e)) (find (λ p. p.frame == n) (map early_play early)))
          ≡ cond here (Some e.1) (lookup (is_at (nat_cmp n)) early)
      by_test true rest = refl
      by_test false rest = rest

pub found_in_column :
    (column : List (List Order)) (early : List (ℕ × List Order)) (n : ℕ) → n < length column →
    slice_get column n ≡ play_at (stored_plays column early) n
found_in_column column early n below =
    let same : 0 + n ≡ n = omega arith in
    sym (column_at 0 n column (map early_play early) below)
    ∙ ap (play_at (stored_plays column early)) same

pub found_early :
    (column : List (List Order)) (early : List (ℕ × List Order)) (n : ℕ) → length column ≤ n →
    lookup (is_at (nat_cmp n)) early ≡ play_at (stored_plays column early) n
found_early column early n past = sym (column_past 0 n column (map early_play early) (omega arith)
    ∙ early_at early n)

-- The first play after a frame.
after_in_column :
    (k n : ℕ) (column : List (List Order)) (rest : List KeptPlay) → k ≤ n + 1 →
    n + 1 < k + length column →
    play_after (column_plays k column ++ rest) n ≡ Some (n + 1)
after_in_column k n [] rest low high = absurd (omega arith)
after_in_column k n (orders ∷ column) rest low high =
    by_test (nat_lt n k) refl (λ least. after_in_column (k + 1) n column rest
    (omega (arith, least)) (omega arith)) where
      by_test :
          (after : Bool) → nat_lt n k ≡ after →
          (k ≤ n → play_after (column_plays (k + 1) column ++ rest) n ≡ Some (n + 1)) →
          option_map (λ (p : KeptPlay). p.frame)
          (cond after (Some (record { frame = k; orders = orders }))
          (find (λ p. nat_lt n p.frame) (column_plays (k + 1) column ++ rest))) ≡ Some
          (n + 1)
      by_test true is more = let same : k ≡ n + 1 = grind (arith, nat_tests) in ap Some same
      by_test false is more = more (grind (arith, nat_tests))

after_past_column :
    (k n : ℕ) (column : List (List Order)) (rest : List KeptPlay) → k + length column ≤ n + 1 →
    play_after (column_plays k column ++ rest) n ≡ play_after rest n
after_past_column k n [] rest past = refl
after_past_column k n (orders ∷ column) rest past =
    let before : nat_lt n k ≡ false = grind (arith, nat_tests) in
    ap (λ b. option_map (λ (p : KeptPlay). p.frame)
    (cond b (Some (record { frame = k; orders = orders }))
    (find (λ p. nat_lt n p.frame) (column_plays (k + 1) column ++ rest)))) before
    ∙ after_past_column (k + 1) n column rest (omega arith)

pub next_in_column :
    (column : List (List Order)) (early : List (ℕ × List Order)) (n : ℕ) → n + 1 < length column →
    Some (n + 1) ≡ play_after (stored_plays column early) n
next_in_column column early n below = sym (after_in_column 0 n column (map early_play early)
    (omega arith) (omega arith))

next_test : (n k : ℕ) → nat_lt n k ≡ is_le (nat_cmp (n + 1) k)
next_test n k = by_tests (nat_lt (n + 1) k) (n + 1 == k) (nat_lt n k) refl refl refl where
  by_tests :
      (low same after : Bool) → nat_lt (n + 1) k ≡ low → (n + 1 == k) ≡ same → nat_lt n k ≡ after →
      after ≡ is_le (cond low Less (cond same Equal Greater))
  by_tests true same true low_is same_is after_is = refl
  by_tests true same false low_is same_is after_is = absurd (grind (arith, nat_tests))
  by_tests false true true low_is same_is after_is = refl
  by_tests false true false low_is same_is after_is = absurd (grind (arith, nat_tests))
  by_tests false false true low_is same_is after_is = absurd (grind (arith, nat_tests))
  by_tests false false false low_is same_is after_is = refl

-- What a map has from a frame on begins with the first play after the frame before it.
first_from :
    (early : List (ℕ × List Order)) (n : ℕ) →
    play_after (map early_play early) n ≡ option_map (λ e. e.0)
    (slice_get (entries_between nat_cmp (Included (n + 1)) Unbounded early) 0)
first_from [] n = refl
first_from (e ∷ early) n =
    ap (λ b. option_map (λ (p : KeptPlay). p.frame)
    (cond b (Some (early_play e)) (find (λ p. nat_lt n p.frame) (map early_play early))))
    (next_test n e.0)
    ∙ by_test (is_le (nat_cmp (n + 1) e.0)) (first_from early n) where
      by_test :
          (from : Bool) → play_after (map early_play early) n ≡ option_map (λ e. e.0)
          (slice_get (entries_between nat_cmp (Included (n + 1)) Unbounded early) 0) →
          option_map (λ (p : KeptPlay). p.frame)
          (cond from (Some (early_play e))
          (find (λ p. nat_lt n p.frame) (map early_play early)))
          ≡ option_map (λ e. e.0) (slice_get
          (cond (from && true) (e ∷ entries_between nat_cmp (Included (n + 1)) Unbounded early)
          (entries_between nat_cmp (Included (n + 1)) Unbounded early)) 0)
      by_test true rest = refl
      by_test false rest = rest

pub next_early :
    (column : List (List Order)) (early from : List (ℕ × List Order)) (n : ℕ) →
    length column ≤ n + 1 →
    from ≡ entries_between nat_cmp (Included (n + 1)) Unbounded early →
    option_map (λ e. e.0) (slice_get from 0) ≡ play_after (stored_plays column early) n
next_early column early from n past is =
    ap (λ es. option_map (λ e. e.0) (slice_get es 0)) is
    ∙ sym (after_past_column 0 n column (map early_play early) (omega arith) ∙ first_from early n)

-- One more play in its place.
with_next :
    (k : ℕ) (column : List (List Order)) (early : List (ℕ × List Order)) (orders : List Order) →
    IsAbove (k + length column) early →
    with_play (record { frame = k + length column; orders = orders })
    (column_plays k column ++ map early_play early)
    ≡ column_plays k column ++ record { frame = k + length column; orders = orders }
    ∷ map early_play early
with_next k [] [] orders above = refl
with_next k [] (e ∷ early) orders above =
    let before : nat_lt (k + 0) e.0 ≡ true = let low : k + 0 < e.0 =
    above.0 in grind (arith, nat_tests) in
    ap (λ b. if b then record { frame = k + 0; orders = orders } ∷ early_play e
    ∷ map early_play early
    else early_play e ∷ with_play (record { frame = k + 0; orders = orders })
    (map early_play early)) before
with_next k (first ∷ column) early orders above =
    let same : (k + 1) + length column ≡ k + suc (length column) = omega arith in
    let later : nat_lt (k + suc (length column)) k ≡ false = grind (arith, nat_tests) in
    let at : ℕ → KeptPlay = λ n. record { frame = n; orders = orders } in
    ap (λ b. if b then at (k + suc (length column)) ∷ record { frame = k; orders = first } ∷
    (column_plays (k + 1) column ++ map early_play early)
    else record { frame = k; orders = first } ∷ with_play (at (k + suc (length column)))
    (column_plays (k + 1) column ++ map early_play early)) later
    ∙ ap (λ more. record { frame = k; orders = first } ∷ more)
    (ap (λ n. with_play (at n) (column_plays (k + 1) column ++ map early_play early)) (sym same)
    ∙ with_next (k + 1) column early orders (subst (λ n. IsAbove n early) (sym same) above)
    ∙ ap (λ n. column_plays (k + 1) column ++ at n ∷ map early_play early) same)

pub kept_next :
    (column : List (List Order)) (early : List (ℕ × List Order)) (orders : List Order) →
    IsAbove (length column) early →
    stored_plays (column ++ orders ∷ []) early ≡ with_play
    (record { frame = length column; orders = orders }) (stored_plays column early)
kept_next column early orders above =
    let same : 0 + length column ≡ length column = omega arith in
    let at : ℕ → KeptPlay = λ n. record { frame = n; orders = orders } in
    moved column orders early
    ∙ ap (λ n. column_plays 0 column ++ at n ∷ map early_play early) (sym same)
    ∙ sym (with_next 0 column early orders (subst (λ n. IsAbove n early) (sym same) above))
    ∙ ap (λ n. with_play (at n) (stored_plays column early)) same

with_past :
    (k n : ℕ) (column : List (List Order)) (rest : List KeptPlay) (orders : List Order) →
    k + length column ≤ n →
    with_play (record { frame = n; orders = orders }) (column_plays k column ++ rest)
    ≡ column_plays k column ++ with_play (record { frame = n; orders = orders }) rest
with_past k n [] rest orders past = refl
with_past k n (first ∷ column) rest orders past =
    let play : KeptPlay = record { frame = n; orders = orders } in
    let later : nat_lt n k ≡ false = grind (arith, nat_tests) in
    ap (λ b. if b then play ∷ record { frame = k; orders = first } ∷
    (column_plays (k + 1) column ++ rest)
    else record { frame = k; orders = first } ∷ with_play play
    (column_plays (k + 1) column ++ rest)) later
    ∙ ap (λ more. record { frame = k; orders = first } ∷ more)
    (with_past (k + 1) n column rest orders (omega arith))

with_early :
    (n : ℕ) (early : List (ℕ × List Order)) (orders : List Order) →
    lookup (is_at (nat_cmp n)) early ≡ None →
    map early_play (insert_entry nat_cmp early n orders) ≡ with_play
    (record { frame = n; orders = orders }) (map early_play early)
with_early n [] orders none = refl
with_early n (e ∷ early) orders none =
    by_tests (nat_lt n e.0) (n == e.0) refl refl none (with_early n early orders) where
      by_tests :
          (low same : Bool) → nat_lt n e.0 ≡ low → (n == e.0) ≡ same →
          cond (is_eq (cond low Less (cond same Equal Greater))) (Some e.1)
          (lookup (is_at (nat_cmp n)) early) ≡ None →
          (lookup (is_at (nat_cmp n)) early ≡ None →
          map early_play (insert_entry nat_cmp early n orders) ≡ with_play
          (record { frame = n; orders = orders }) (map early_play early)) →
          map early_play (match_ordering (cond low Less (cond same Equal Greater))
          ((n, orders) ∷ e ∷ early) ((e.0, orders) ∷ early)
          (e ∷ insert_entry nat_cmp early n orders))
          ≡ (if low then record { frame = n; orders = orders } ∷ early_play e ∷ map early_play early
          else early_play e ∷ with_play (record { frame = n; orders = orders })
          (map early_play early))
      by_tests true same low_is same_is none rest = refl
      by_tests false true low_is same_is none rest = absurd cc
      by_tests false false low_is same_is none rest = ap (λ more. early_play e ∷ more) (rest none)

pub kept_early :
    (column : List (List Order)) (early : List (ℕ × List Order)) (n : ℕ) (orders : List Order) →
    length column ≤ n →
    play_at (stored_plays column early) n ≡ None →
    stored_plays column (insert_entry nat_cmp early n orders) ≡ with_play
    (record { frame = n; orders = orders }) (stored_plays column early)
kept_early column early n orders past none =
    ap (λ plays. column_plays 0 column ++ plays)
    (with_early n early orders (found_early column early n past ∙ none))
    ∙ sym (with_past 0 n column (map early_play early) orders (omega arith))

above_with :
    (m n : ℕ) (early : List (ℕ × List Order)) (orders : List Order) → m < n → IsAbove m early →
    lookup (is_at (nat_cmp n)) early ≡ None →
    IsAbove m (insert_entry nat_cmp early n orders)
above_with m n [] orders low above none = (low, tt)
above_with m n (e ∷ early) orders low above none =
    by_tests (nat_lt n e.0) (n == e.0) refl refl none
    (λ less. above_with e.0 n early orders less above.1) where
      by_tests :
          (before same : Bool) → nat_lt n e.0 ≡ before → (n == e.0) ≡ same →
          cond (is_eq (cond before Less (cond same Equal Greater))) (Some e.1)
          (lookup (is_at (nat_cmp n)) early) ≡ None →
          (e.0 < n → lookup (is_at (nat_cmp n)) early ≡ None →
          IsAbove e.0 (insert_entry nat_cmp early n orders)) →
          IsAbove m (match_ordering (cond before Less (cond same Equal Greater))
          ((n, orders) ∷ e ∷ early) ((e.0, orders) ∷ early)
          (e ∷ insert_entry nat_cmp early n orders))
      by_tests true same before_is same_is none rest = (low, (grind (arith, nat_tests), above.1))
      by_tests false true before_is same_is none rest = absurd cc
      by_tests false false before_is same_is none rest =
          (above.0, rest (grind (arith, nat_tests)) none)

pub early_above :
    (column : List (List Order)) (early : List (ℕ × List Order)) (n : ℕ) (orders : List Order) →
    length column < n →
    IsAbove (length column) early → play_at (stored_plays column early) n ≡ None →
    IsAbove (length column) (insert_entry nat_cmp early n orders)
early_above column early n orders past above none =
    above_with (length column) n early orders past above
    (found_early column early n (omega arith) ∙ none)

-- Where no play stands at a frame that isn't the column's next one, the frame is after the gap.
pub after_gap :
    (column : List (List Order)) (early : List (ℕ × List Order)) (n : ℕ) → n ≢ length column →
    play_at (stored_plays column early) n ≡ None → length column < n
after_gap column early n other none = by_test (nat_lt n (length column)) refl where
  by_test : (low : Bool) → nat_lt n (length column) ≡ low → length column < n
  by_test true is =
      let below : n < length column = grind (arith, nat_tests) in
      elim (slice_get_cases column n).1 [
        | inl found ↦ absurd (let e : Some found.0 ≡ None = sym found.2
            ∙ found_in_column column early n below ∙ none in cc)
        | inr absent ↦ absurd (omega (arith, absent.0))
      ]
  by_test false is = grind (arith, nat_tests)

-- The first early play moves to the end of the column.
pub one_moved :
    (column : List (List Order)) (orders : List Order) (olds news : List (ℕ × List Order)) →
    olds ≡ (length column, orders) ∷ news →
    IsFrom (length column) olds →
    IsFrom (length (column ++ orders ∷ [])) news
    × (stored_plays (column ++ orders ∷ []) news ≡ stored_plays column olds)
one_moved column orders olds news is from =
    let first : IsFrom (length column) ((length column, orders) ∷ news) =
    subst (IsFrom (length column)) is from in (
      subst (λ n. IsFrom n news) (sym (length_push column orders))
          (above_next (length column) news first.1),
      moved column orders news ∙ ap (stored_plays column) (sym is),
    )

-- One more play keeps plays by rising frame.
all_with_play : (P : KeptPlay → Type 0) (k : KeptPlay) (plays : List KeptPlay) → P k →
    AllByRecursion P plays → AllByRecursion P (with_play k plays)
all_with_play P k [] here all = (here, tt)
all_with_play P k (p ∷ plays) here all =
    elim (nat_lt k.frame p.frame) as (λ b. AllByRecursion P
    (if b then k ∷ p ∷ plays else p ∷ with_play k plays)) [
      | true ↦ (here, all)
      | false ↦ (all.0, all_with_play P k plays here all.1)
    ]

from_later : (f n : ℕ) (plays : List KeptPlay) → n < f → AllByRecursion (λ q. f < q.frame) plays →
    AllByRecursion (λ q. n < q.frame) plays
from_later f n [] before all = tt
from_later f n (p ∷ plays) before all = (
  let low : f < p.frame =
      all.0 in omega arith,
  from_later f n plays before all.1,
)

pub kept_by_frame :
    (k : KeptPlay) (plays : List KeptPlay) → IsByFrame plays → play_at plays k.frame ≡ None →
    IsByFrame (with_play k plays)
kept_by_frame k [] rise none = (tt, tt)
kept_by_frame k (p ∷ plays) rise none =
    by_tests (nat_lt k.frame p.frame) (p.frame == k.frame) refl refl none
    (kept_by_frame k plays rise.1) where
      by_tests :
          (before here : Bool) → nat_lt k.frame p.frame ≡ before → (p.frame == k.frame) ≡ here →
          option_map (λ (q : KeptPlay). q.orders)
          (cond here (Some p) (find (λ q. q.frame == k.frame) plays)) ≡ None →
          (play_at plays k.frame ≡ None → IsByFrame (with_play k plays)) →
          IsByFrame (if before then k ∷ p ∷ plays else p ∷ with_play k plays)
      by_tests before true before_is here_is none rest = absurd cc
      by_tests true false before_is here_is none rest =
          let low : k.frame < p.frame = grind (arith, nat_tests) in
          ((low, from_later p.frame k.frame plays low rise.0), rise)
      by_tests false false before_is here_is none rest =
          let later : p.frame < k.frame = grind (arith, nat_tests) in
          (all_with_play (λ q. p.frame < q.frame) k plays later rise.0, rest none)
