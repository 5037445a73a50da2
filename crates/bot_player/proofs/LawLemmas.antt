-- The nearest enemy is the nearest, and the least product the least.
use Rattle.std.proofs.Common.{◌≡◌, ℕ, zero, suc, ◌+◌, ◌<◌, ◌≤◌, ◌⊎◌, ltb, eqb, Bool, true, false, cond, ◌&&◌, ◌||◌, List, [], ◌∷◌, length, Option, Some, None, is_some, inl, inr, refl, sym, subst, arith}
use Rattle.std.specs.Prelude.{Contains, MatchOption, filter, find, fold}
use Rattle.std.specs.List.{range_with_len, reduce}
use Rattle.std.proofs.lemmas.Bool.{cases_lt, both_ways, eqb-true, eqb-false, ltb-true, ltb-false, true≢false}
use Rattle.std.proofs.lemmas.List.Elements.{Contains-append_cases, Contains-append_left, Contains-append_right, Contains-push, Contains-push_cases}
use Rattle.std.proofs.lemmas.Option.{slice_get_past}
use Rattle.world_units.specs.declared.cell.CPos.{CPos}
use Rattle.world_units.specs.Cells.{dist_sq_of}
use Rattle.rule_traits.specs.declared.kind.Kind.{Kind}
use Rattle.game_model.specs.declared.actor.Actor.{Actor}
use Rattle.game_model.specs.Kinds.{kind_of}
use Rattle.game_model.specs.NearestActor.{is_nearer, IsAsNear, IsNearest}
use Rattle.game_tick.specs.Orders.{Goods, produce_fits}
use Rattle.bot_player.specs.BotOrders.{is_enemy, least_product, nearer_of, nearest_enemy}
use Rattle.bot_player.specs.Laws.{IsEnemyAmong, IsLeastThatFits, TellsLeast, TellsNearest}

-- As near, as an order of two numbers.
abbrev Before : (m n i j : ℕ) → Type 0
Before m n i j = (m < n) ⊎ ((m ≡ n) × (i ≤ j))

before_next : (m n o i j k : ℕ) → Before m n i j → Before n o j k → Before m o i k
before_next m n o i j k (inl first) (inl second) = inl (omega (arith, first, second))
before_next m n o i j k (inl first) (inr second) = inl (omega (arith, first, second.0))
before_next m n o i j k (inr first) (inl second) = inl (omega (arith, first.0, second))
before_next m n o i j k (inr first) (inr second) =
    inr (omega (arith, first.0, second.0), omega (arith, first.1, second.1))

before_if : (m n i j : ℕ) (t u v : Bool) → ltb m n ≡ t → eqb m n ≡ u → ltb i j ≡ v →
    (t || (u && v)) ≡ true → Before m n i j
before_if m n i j true u v less same low met = inl (ltb-true m n less)
before_if m n i j false true true less same low met =
    inr (eqb-true m n same, omega (arith, ltb-true i j low))
before_if m n i j false true false less same low met = absurd (true≢false (sym met))
before_if m n i j false false v less same low met = absurd (true≢false (sym met))

before_else : (m n i j : ℕ) (t u v : Bool) → ltb m n ≡ t → eqb m n ≡ u → ltb i j ≡ v →
    (t || (u && v)) ≡ false → Before n m j i
before_else m n i j true u v less same low met = absurd (true≢false met)
before_else m n i j false true true less same low met = absurd (true≢false met)
before_else m n i j false true false less same low met =
    inr (sym (eqb-true m n same), ltb-false i j low)
before_else m n i j false false v less same low met =
    let apart : m ≡ n → ⊥ = eqb-false m n same in
    inl (omega (arith, ltb-false m n less, apart))

as_near_self : (from : CPos) (x : Actor) → IsAsNear from x x
as_near_self from x = inr (refl, omega arith)

as_near_next :
    (from : CPos) (x y z : Actor) → IsAsNear from x y → IsAsNear from y z → IsAsNear from x z
as_near_next from x y z first second =
    before_next (dist_sq_of from x.cell) (dist_sq_of from y.cell) (dist_sq_of from z.cell) x.id y.id
    z.id first second

nearer_near : (from : CPos) (x y : Actor) → is_nearer from x y ≡ true → IsAsNear from x y
nearer_near from x y met =
    before_if (dist_sq_of from x.cell) (dist_sq_of from y.cell) x.id y.id _ _ _ refl refl refl met

not_nearer_near : (from : CPos) (x y : Actor) → is_nearer from x y ≡ false → IsAsNear from y x
not_nearer_near from x y fails =
    before_else (dist_sq_of from x.cell) (dist_sq_of from y.cell) x.id y.id _ _ _ refl refl refl fails

-- One of a list is the first, or one of the others.
nothing_in : {X : Type 0} (z : X) → Contains [] z → ⊥
nothing_in z is = omega (arith, is.1)

first_or : {X : Type 0} (x : X) (xs : List X) (z : X) → Contains (x ∷ xs) z → (x ≡ z) ⊎ Contains xs z
first_or {X} x xs z is = elim (Contains-append_cases (x ∷ []) xs z is) [
  | inl here ↦ elim (Contains-push_cases [] x z here) [
    | inl none ↦ absurd (nothing_in z none)
    | inr same ↦ inl same
  ]
  | inr later ↦ inr later
]

first_in : {X : Type 0} (x : X) (xs : List X) → Contains (x ∷ xs) x
first_in x xs = Contains-append_left (x ∷ []) xs x (Contains-push [] x)

later_in : {X : Type 0} (x : X) (xs : List X) (z : X) → Contains xs z → Contains (x ∷ xs) z
later_in x xs z is = Contains-append_right (x ∷ []) xs z is

-- The nearest of a list, found from the first on.
fold_nearest :
    (from : CPos) (best : Actor) (ys : List Actor) →
    IsNearest from (Contains (best ∷ ys)) (Some (fold (nearer_of from) best ys))
fold_nearest from best [] = (first_in best [], each)
  where
    each : (z : Actor) → Contains (best ∷ []) z → IsAsNear from best z
    each z is = elim (first_or best [] z is) [
      | inl same ↦ subst (IsAsNear from best) same (as_near_self from best)
      | inr none ↦ absurd (nothing_in z none)
    ]
fold_nearest from best (y ∷ ys) =
    at (is_nearer from y best) refl (fold_nearest from (nearer_of from best y) ys)
  where
    joined :
        (kept other r : Actor) → IsAsNear from kept other →
        ((z : Actor) → Contains (best ∷ (y ∷ ys)) z → (other ≡ z) ⊎ Contains (kept ∷ ys) z) →
        ((z : Actor) → Contains (kept ∷ ys) z → Contains (best ∷ (y ∷ ys)) z) →
        IsNearest from (Contains (kept ∷ ys)) (Some r) →
        IsNearest from (Contains (best ∷ (y ∷ ys))) (Some r)
    joined kept other r near to back held = (back r held.0, each)
      where
        each : (z : Actor) → Contains (best ∷ (y ∷ ys)) z → IsAsNear from r z
        each z is = elim (to z is) [
          | inl same ↦ subst (IsAsNear from r) same
              (as_near_next from r kept other (held.1 kept (first_in kept ys)) near)
          | inr is ↦ held.1 z is
        ]

    to_best : (z : Actor) → Contains (best ∷ (y ∷ ys)) z → (best ≡ z) ⊎ Contains (y ∷ ys) z
    to_best z is = first_or best (y ∷ ys) z is

    to_first : (z : Actor) → Contains (best ∷ (y ∷ ys)) z → (y ≡ z) ⊎ Contains (best ∷ ys) z
    to_first z is = elim (first_or best (y ∷ ys) z is) [
      | inl same ↦ inr (subst (Contains (best ∷ ys)) same (first_in best ys))
      | inr later ↦ elim (first_or y ys z later) [
        | inl same ↦ inl same
        | inr last ↦ inr (later_in best ys z last)
      ]
    ]

    back_first : (z : Actor) → Contains (best ∷ ys) z → Contains (best ∷ (y ∷ ys)) z
    back_first z is = elim (first_or best ys z is) [
      | inl same ↦ subst (Contains (best ∷ (y ∷ ys))) same (first_in best (y ∷ ys))
      | inr later ↦ later_in best (y ∷ ys) z (later_in y ys z later)
    ]

    at :
        (t : Bool) → is_nearer from y best ≡ t →
        IsNearest from (Contains (cond t y best ∷ ys)) (Some (fold (nearer_of from) (cond t y best) ys)) →
        IsNearest from (Contains (best ∷ (y ∷ ys))) (Some (fold (nearer_of from) (cond t y best) ys))
    at true met held =
        joined y best (fold (nearer_of from) y ys) (nearer_near from y best met) to_best
        (λ z is. later_in best (y ∷ ys) z is) held
    at false fails held =
        joined best y (fold (nearer_of from) best ys) (not_nearer_near from y best fails) to_first
        back_first held

list_nearest :
    (from : CPos) (ys : List Actor) → IsNearest from (Contains ys) (reduce (nearer_of from) ys)
list_nearest from [] = λ z is. nothing_in z is
list_nearest from (y ∷ ys) = fold_nearest from y ys

-- What a filter keeps.
kept_in :
    {X : Type 0} (test : X → Bool) (xs : List X) (z : X) → Contains (filter test xs) z →
    Contains xs z × (test z ≡ true)
kept_in test [] z is = absurd (nothing_in z is)
kept_in {X} test (x ∷ xs) z is = at (test x) refl (kept_in test xs z) is
  where
    at :
        (t : Bool) → test x ≡ t →
        (Contains (filter test xs) z → Contains xs z × (test z ≡ true)) →
        Contains (cond t (x ∷ filter test xs) (filter test xs)) z →
        Contains (x ∷ xs) z × (test z ≡ true)
    at true met rest is = elim (first_or x (filter test xs) z is) [
      | inl same ↦ (subst (Contains (x ∷ xs)) same (first_in x xs), subst (λ (w : X). test w ≡ true) same met)
      | inr later ↦ (later_in x xs z (rest later).0, (rest later).1)
    ]
    at false fails rest is = (later_in x xs z (rest is).0, (rest is).1)

in_kept :
    {X : Type 0} (test : X → Bool) (xs : List X) (z : X) → Contains xs z → test z ≡ true →
    Contains (filter test xs) z
in_kept test [] z is passes = absurd (nothing_in z is)
in_kept {X} test (x ∷ xs) z is passes =
    at (test x) refl (λ later. in_kept test xs z later passes) (first_or x xs z is)
  where
    at :
        (t : Bool) → test x ≡ t → (Contains xs z → Contains (filter test xs) z) →
        (x ≡ z) ⊎ Contains xs z → Contains (cond t (x ∷ filter test xs) (filter test xs)) z
    at true met rest (inl same) =
        subst (Contains (x ∷ filter test xs)) same (first_in x (filter test xs))
    at true met rest (inr later) = later_in x (filter test xs) z (rest later)
    at false fails rest (inl same) =
        absurd (both_ways (test x) fails (subst (λ (w : X). test w ≡ true) (sym same) passes))
    at false fails rest (inr later) = rest later

-- Two sets of the same actors have one nearest.
nearest_same :
    (from : CPos) (S T : Actor → Type 0) (o : Option Actor) → ((x : Actor) → S x → T x) →
    ((x : Actor) → T x → S x) → IsNearest from S o → IsNearest from T o
nearest_same from S T None to back nearest = λ y is. nearest y (back y is)
nearest_same from S T (Some x) to back nearest = (to x nearest.0, λ y is. nearest.1 y (back y is))

pub tells_nearest :
    (rules : List Kind) (actors : List Actor) (c : ℕ) (from : CPos) →
    TellsNearest rules actors c from
tells_nearest rules actors c from =
    nearest_same from (Contains (filter (is_enemy rules c) actors)) (IsEnemyAmong rules actors c)
    (nearest_enemy rules actors c from) to back (list_nearest from (filter (is_enemy rules c) actors))
  where
    to : (x : Actor) → Contains (filter (is_enemy rules c) actors) x → IsEnemyAmong rules actors c x
    to x is =
        let kept = kept_in (is_enemy rules c) actors x is in
        record { there = kept.0; enemy = kept.1 }

    back : (x : Actor) → IsEnemyAmong rules actors c x → Contains (filter (is_enemy rules c) actors) x
    back x is = in_kept (is_enemy rules c) actors x is.there is.enemy

-- The first number that passes is the least.
pub record IsLeastFrom (test : ℕ → Bool) (i k : ℕ) : Type 0 where
  pub low : i ≤ k
  pub met : test k ≡ true
  pub least : (j : ℕ) → i ≤ j → j < k → test j ≡ false

abbrev FindsLeast : (test : ℕ → Bool) → (i n : ℕ) → Option ℕ → Type 0
FindsLeast test i n o =
    MatchOption o ((j : ℕ) → i ≤ j → j < i + n → test j ≡ false) (IsLeastFrom test i)

finds_least : (test : ℕ → Bool) (i n : ℕ) → FindsLeast test i n (find test (range_with_len i n))
finds_least test i zero = λ j low high. absurd (omega arith)
finds_least test i (suc n) = at (test i) refl (find test (range_with_len (i + 1) n)) (finds_least test (i + 1) n)
  where
    here_or : (j : ℕ) → i ≤ j → (i ≡ j) ⊎ (i + 1 ≤ j)
    here_or j low = elim (cases_lt i j) [
      | inl above ↦ inr (omega arith)
      | inr below ↦ inl (omega (arith, low))
    ]

    at :
        (t : Bool) → test i ≡ t → (o : Option ℕ) → FindsLeast test (i + 1) n o →
        FindsLeast test i (suc n) (cond t (Some i) o)
    at true met o rest =
        record { low = omega arith; met = met; least = λ j low high. absurd (omega arith) }
    at false fails None rest = λ j low high. elim (here_or j low) [
      | inl same ↦ subst (λ (k : ℕ). test k ≡ false) same fails
      | inr later ↦ rest j later (omega arith)
    ]
    at false fails (Some k) rest =
        record {
          low = omega (arith, rest.low);
          met = rest.met;
          least = λ j low high. elim (here_or j low) [
            | inl same ↦ subst (λ (m : ℕ). test m ≡ false) same fails
            | inr later ↦ rest.least j later high
          ];
        }

-- A number that is no kind's doesn't fit.
past_fits :
    (rules : List Kind) (goods : Goods) (c number : ℕ) (a : Actor) → length rules ≤ number →
    produce_fits rules goods c number a ≡ false
past_fits rules goods c number a past =
    rw (slice_get_past rules number past)
    (no_unit (is_some (kind_of rules a.kind).production) _ _ _ _)
  where
    no_unit : (p b n l m : Bool) → (p && false && b && n && l && m) ≡ false
    no_unit true b n l m = refl
    no_unit false b n l m = refl

pub tells_least :
    (rules : List Kind) (goods : Goods) (c : ℕ) (a : Actor) → TellsLeast rules goods c a
tells_least rules goods c a =
    at (least_product rules goods c a)
    (finds_least (λ (number : ℕ). produce_fits rules goods c number a) 0 (length rules))
  where
    at :
        (o : Option ℕ) →
        FindsLeast (λ (number : ℕ). produce_fits rules goods c number a) 0 (length rules) o →
        MatchOption o ((number : ℕ) → produce_fits rules goods c number a ≡ false)
        (IsLeastThatFits rules goods c a)
    at None none = λ number. elim (cases_lt number (length rules)) [
      | inl below ↦ none number (omega arith) (omega arith)
      | inr past ↦ past_fits rules goods c number a past
    ]
    at (Some k) least =
        record { fits = least.met; least = λ lesser below. least.least lesser (omega arith) below }
