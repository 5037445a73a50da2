-- What is found kind by kind is the nearest refinery.
use Rattle.std.proofs.Common.{◌≡◌, ◌≢◌, ℕ, suc, ◌+◌, ◌<◌, ◌≤◌, ◌⊎◌, ltb, eqb, Bool, true, false, not, ◌&&◌, ◌||◌, cond, List, [], ◌∷◌, length, get_or, Option, Some, None, is_some, inl, inr, refl, sym, subst, ap, ◌∙◌, arith}
use Rattle.std.specs.List.{filter, fold, reduce, AllByRecursion}
use Rattle.std.proofs.lemmas.Bool.Decides.{eqb_tells, nat_tests}
use Rattle.std.proofs.lemmas.List.Elements.{recursion_from_All}
use Rattle.world_units.specs.declared.cell.CPos.{CPos}
use Rattle.world_units.specs.Cells.{dist_sq_of}
use Rattle.rule_traits.specs.declared.kind.Kind.{Kind}
use Rattle.game_model.specs.declared.actor.Actor.{Actor}
use Rattle.game_model.specs.World.{actor_of}
use Rattle.actor_table.specs.declared.listed.Listed.{Listed}
use Rattle.actor_table.specs.Kinds.{is_of, ids_of_kind, listed_of, IsNextKind}
use Rattle.game_model.proofs.FoundLemmas.{IdsRise}
use Rattle.game_model.proofs.LivingLemmas.{found_at}
use Rattle.actor_table.specs.Rising.{RisesFrom}
use Rattle.game_tick.specs.Harvesting.{is_refinery_for, nearest_refinery}
use Rattle.game_model.specs.Kinds.{kind_of}
use Rattle.game_tick.specs.Nearest.{lesser_by}
use Rattle.game_model.specs.NearestActor.{is_nearer, IsAsNear, IsNearest}
use Rattle.harvest.specs.Refineries.{is_other, nearer_of, better_of, best_of, best_of_kind, IsOtherRefinery, IsRefinery, IsRefineryBelow}

bool_tells : (b : Bool) → (b ≡ true) ⊎ (b ≡ false)
bool_tells true = inl refl
bool_tells false = inr refl

-- nearer, as an order of two numbers
abbrev Before : (m n i j : ℕ) → Type 0
Before m n i j = (m < n) ⊎ ((m ≡ n) × (i ≤ j))

less_if : (m n : ℕ) → ltb m n ≡ true → m < n
less_if m n met = grind (arith, nat_tests)

least_if : (m n : ℕ) → ltb m n ≡ false → n ≤ m
least_if m n fails = grind (arith, nat_tests)

before_yes : (m n i j : ℕ) → (ltb m n || (eqb m n && ltb i j)) ≡ true → Before m n i j
before_yes m n i j met = elim (bool_tells (ltb m n)) [
  | inl lt ↦ inl (less_if m n lt)
  | inr ge ↦ inr (both (rw ge at met))
]
  where
    both : (eqb m n && ltb i j) ≡ true → (m ≡ n) × (i ≤ j)
    both met = (grind (arith, nat_tests), grind (arith, nat_tests))

before_no : (m n i j : ℕ) → (ltb m n || (eqb m n && ltb i j)) ≡ false → Before n m j i
before_no m n i j fails = elim (bool_tells (ltb m n)) [
  | inl lt ↦ absurd (clash (rw lt at fails))
  | inr ge ↦ elim (eqb_tells m n) [
    | inl same ↦ inr (sym same.1, least_if i j (rw (ge, same.0) at fails))
    | inr other ↦ inl (omega (arith, least_if m n ge, other.1))
  ]
]
  where
    clash : true ≡ false → ⊥
    clash no' = absurd (cc)

before_by : (m n i j : ℕ) → ltb n m ≡ false → i ≤ j → Before m n i j
before_by m n i j fails le = elim (eqb_tells m n) [
  | inl same ↦ inr (same.1, le)
  | inr other ↦ inl (omega (arith, least_if n m fails, other.1))
]

before_next : (m n o i j k : ℕ) → Before m n i j → Before n o j k → Before m o i k
before_next m n o i j k (inl first) (inl second) = inl (omega (arith, first, second))
before_next m n o i j k (inl first) (inr second) = inl (omega (arith, first, second.0))
before_next m n o i j k (inr first) (inl second) = inl (omega (arith, first.0, second))
before_next m n o i j k (inr first) (inr second) = inr (omega (arith, first.0, second.0), omega (arith, first.1, second.1))

before_both : (m n i j : ℕ) → Before m n i j → Before n m j i → i ≡ j
before_both m n i j (inl first) (inl second) = absurd (omega (arith, first, second))
before_both m n i j (inl first) (inr second) = absurd (omega (arith, first, second.0))
before_both m n i j (inr first) (inl second) = absurd (omega (arith, first.0, second))
before_both m n i j (inr first) (inr second) = omega (arith, first.1, second.1)

as_near_next : (from : CPos) (x y z : Actor) → IsAsNear from x y → IsAsNear from y z → IsAsNear from x z
as_near_next from x y z first second = before_next (dist_sq_of from x.cell) (dist_sq_of from y.cell) (dist_sq_of from z.cell) x.id y.id z.id first second

as_near_self : (from : CPos) (x : Actor) → IsAsNear from x x
as_near_self from x = inr (refl, omega arith)

same_some : (x y : Actor) → Some x ≡ Some y → x ≡ y
same_some x y some = cc

clash : {A : Type 0} {b : Bool} → b ≡ false → b ≡ true → A
clash fails met = absurd (cc)

nothing : (id : ℕ) (x : Actor) → actor_of [] id ≡ Some x → ⊥
nothing id x found = absurd (cc)

-- two sets with the same actors
nearest_same : (from : CPos) (S T : Actor → Type 0) (o : Option Actor) → ((x : Actor) → S x → T x) → ((x : Actor) → T x → S x) → IsNearest from S o → IsNearest from T o
nearest_same from S T None to back nearest = λ y in_t. nearest y (back y in_t)
nearest_same from S T (Some x) to back nearest = (to x nearest.0, λ y in_t. nearest.1 y (back y in_t))

-- there is one nearest
nearest_one : (actors : List Actor) (from : CPos) (S : Actor → Type 0) (o p : Option Actor) → ((x : Actor) → S x → actor_of actors x.id ≡ Some x) → IsNearest from S o → IsNearest from S p → o ≡ p
nearest_one actors from S None None there first second = refl
nearest_one actors from S None (Some y) there first second = absurd (first y second.0)
nearest_one actors from S (Some x) None there first second = absurd (second x first.0)
nearest_one actors from S (Some x) (Some y) there first second =
    let same : x.id ≡ y.id = before_both (dist_sq_of from x.cell) (dist_sq_of from y.cell) x.id y.id (first.1 y second.0) (second.1 x first.0) in
    sym (there x first.0) ∙ ap (actor_of actors) same ∙ there y second.0

-- with one actor more
better_nearest : (a : Actor) (S : Actor → Type 0) (best o : Option Actor) → IsNearest a.cell S best → IsNearest a.cell (λ x. S x ⊎ ((o ≡ Some x) × (is_other a x ≡ true))) (better_of a best o)
better_nearest a S best None nearest =
    nearest_same a.cell S (λ x. S x ⊎ ((None ≡ Some x) × (is_other a x ≡ true))) best (λ x in_s. inl in_s) back nearest
  where
    back : (x : Actor) → S x ⊎ ((None ≡ Some x) × (is_other a x ≡ true)) → S x
    back x (inl in_s) = in_s
    back x (inr is) = let none : None ≡ Some x = is.0 in absurd (cc)
better_nearest a S best (Some other) nearest = elim (bool_tells (is_other a other)) [
  | inl met ↦ rw met (joined best nearest met)
  | inr fails ↦ rw fails (nearest_same a.cell S (λ x. S x ⊎ ((Some other ≡ Some x) × (is_other a x ≡ true))) best (λ x in_s. inl in_s) (λ x in_one. back fails x in_one) nearest)
]
  where
    back : is_other a other ≡ false → (x : Actor) → S x ⊎ ((Some other ≡ Some x) × (is_other a x ≡ true)) → S x
    back fails x (inl in_s) = in_s
    back fails x (inr is) = clash (subst (λ (y : Actor). is_other a y ≡ false) (same_some other x is.0) fails) is.1

    joined : (first : Option Actor) → IsNearest a.cell S first → is_other a other ≡ true → IsNearest a.cell (λ x. S x ⊎ ((Some other ≡ Some x) × (is_other a x ≡ true))) (nearer_of a.cell first other)
    joined None none met = (inr (refl, met), λ y in_one. alone y in_one)
      where
        alone : (y : Actor) → S y ⊎ ((Some other ≡ Some y) × (is_other a y ≡ true)) → IsAsNear a.cell other y
        alone y (inl in_s) = absurd (none y in_s)
        alone y (inr is) = subst (IsAsNear a.cell other) (same_some other y is.0) (as_near_self a.cell other)
    joined (Some first) held met = elim (bool_tells (is_nearer a.cell other first)) [
      | inl nearer ↦ rw nearer (inr (refl, met), λ y in_one. taken (before_yes (dist_sq_of a.cell other.cell) (dist_sq_of a.cell first.cell) other.id first.id nearer) y in_one)
      | inr farther ↦ rw farther (inl held.0, λ y in_one. kept (before_no (dist_sq_of a.cell other.cell) (dist_sq_of a.cell first.cell) other.id first.id farther) y in_one)
    ]
      where
        taken : IsAsNear a.cell other first → (y : Actor) → S y ⊎ ((Some other ≡ Some y) × (is_other a y ≡ true)) → IsAsNear a.cell other y
        taken near y (inl in_s) = as_near_next a.cell other first y near (held.1 y in_s)
        taken near y (inr is) = subst (IsAsNear a.cell other) (same_some other y is.0) (as_near_self a.cell other)

        kept : IsAsNear a.cell first other → (y : Actor) → S y ⊎ ((Some other ≡ Some y) × (is_other a y ≡ true)) → IsAsNear a.cell first y
        kept near y (inl in_s) = held.1 y in_s
        kept near y (inr is) = subst (IsAsNear a.cell first) (same_some other y is.0) near

-- the actors that these entries name
abbrev pub Named : List Actor → List Listed → Actor → Type 0
Named actors [] x = ⊥
Named actors (e ∷ entries) x = (actor_of actors e.id ≡ Some x) ⊎ Named actors entries x

best_nearest : (actors : List Actor) (a : Actor) (entries : List Listed) (S : Actor → Type 0) (best : Option Actor) → IsNearest a.cell S best → IsNearest a.cell (λ x. S x ⊎ (Named actors entries x × (is_other a x ≡ true))) (best_of actors a best entries)
best_nearest actors a [] S best nearest =
    nearest_same a.cell S (λ x. S x ⊎ (⊥ × (is_other a x ≡ true))) best (λ x in_s. inl in_s) back nearest
  where
    back : (x : Actor) → S x ⊎ (⊥ × (is_other a x ≡ true)) → S x
    back x (inl in_s) = in_s
    back x (inr is) = absurd is.0
best_nearest actors a (e ∷ entries) S best nearest =
    nearest_same a.cell (λ x. (S x ⊎ ((actor_of actors e.id ≡ Some x) × (is_other a x ≡ true))) ⊎ (Named actors entries x × (is_other a x ≡ true))) (λ x. S x ⊎ (Named actors (e ∷ entries) x × (is_other a x ≡ true))) (best_of actors a best (e ∷ entries)) to back
    (best_nearest actors a entries (λ x. S x ⊎ ((actor_of actors e.id ≡ Some x) × (is_other a x ≡ true))) (better_of a best (actor_of actors e.id)) (better_nearest a S best (actor_of actors e.id) nearest))
  where
    to : (x : Actor) → (S x ⊎ ((actor_of actors e.id ≡ Some x) × (is_other a x ≡ true))) ⊎ (Named actors entries x × (is_other a x ≡ true)) → S x ⊎ (Named actors (e ∷ entries) x × (is_other a x ≡ true))
    to x (inl (inl in_s)) = inl in_s
    to x (inl (inr is)) = inr (inl is.0, is.1)
    to x (inr is) = inr (inr is.0, is.1)

    back : (x : Actor) → S x ⊎ (Named actors (e ∷ entries) x × (is_other a x ≡ true)) → (S x ⊎ ((actor_of actors e.id ≡ Some x) × (is_other a x ≡ true))) ⊎ (Named actors entries x × (is_other a x ≡ true))
    back x (inl in_s) = inl (inl in_s)
    back x (inr is) = named is.0 is.1
      where
        named : Named actors (e ∷ entries) x → is_other a x ≡ true → (S x ⊎ ((actor_of actors e.id ≡ Some x) × (is_other a x ≡ true))) ⊎ (Named actors entries x × (is_other a x ≡ true))
        named (inl here) lives = inl (inr (here, lives))
        named (inr later) lives = inr (later, lives)

-- who is listed by an owner and a kind
named_there : (actors : List Actor) (owner kind : ℕ) (ys : List Actor) (x : Actor) → AllByRecursion (λ (y : Actor). actor_of actors y.id ≡ Some y) ys → Named actors (listed_of ys owner kind) x → (actor_of actors x.id ≡ Some x) × (is_of owner kind x ≡ true)
named_there actors owner kind [] x each named = absurd named
named_there actors owner kind (y ∷ ys) x each named = elim (bool_tells (is_of owner kind y)) [
  | inl met ↦ one met (λ later. named_there actors owner kind ys x each.1 later) (rw met at named)
  | inr fails ↦ named_there actors owner kind ys x each.1 (rw fails at named)
]
  where
    one : is_of owner kind y ≡ true → (Named actors (listed_of ys owner kind) x → (actor_of actors x.id ≡ Some x) × (is_of owner kind x ≡ true)) → (actor_of actors y.id ≡ Some x) ⊎ Named actors (listed_of ys owner kind) x → (actor_of actors x.id ≡ Some x) × (is_of owner kind x ≡ true)
    one met rest (inl here) = subst (λ (z : Actor). (actor_of actors z.id ≡ Some z) × (is_of owner kind z ≡ true)) (same_some y x (sym each.0 ∙ here)) (each.0, met)
    one met rest (inr later) = rest later

is_first : (y : Actor) (ys : List Actor) (id : ℕ) (x : Actor) → eqb y.id id ≡ true → actor_of (y ∷ ys) id ≡ Some x → y ≡ x
is_first y ys id x hit found = same_some y x (rw hit at found)

named_back : (actors : List Actor) (owner kind : ℕ) (ys : List Actor) (x : Actor) → actor_of actors x.id ≡ Some x → actor_of ys x.id ≡ Some x → is_of owner kind x ≡ true → Named actors (listed_of ys owner kind) x
named_back actors owner kind [] x there found met = absurd (cc)
named_back actors owner kind (y ∷ ys) x there found met = elim (eqb_tells y.id x.id) [
  | inl hit ↦ (let same = is_first y ys x.id x hit.0 found in here (sym same))
  | inr miss ↦ later (named_back actors owner kind ys x there (rw miss.0 at found) met)
]
  where
    here : x ≡ y → Named actors (listed_of (y ∷ ys) owner kind) x
    here same = rw (subst (λ (z : Actor). is_of owner kind z ≡ true) same met) (inl (subst (λ (z : Actor). actor_of actors z.id ≡ Some x) same there))

    later : Named actors (listed_of ys owner kind) x → Named actors (listed_of (y ∷ ys) owner kind) x
    later rest = elim (bool_tells (is_of owner kind y)) [
      | inl is ↦ rw is (inr rest)
      | inr fails ↦ rw fails rest
    ]

some_of_kind : (owner kind : ℕ) (ys : List Actor) (x : Actor) → actor_of ys x.id ≡ Some x → is_of owner kind x ≡ true → ids_of_kind ys owner kind ≢ []
some_of_kind owner kind [] x found met none = absurd (cc)
some_of_kind owner kind (y ∷ ys) x found met none = elim (bool_tells (is_of owner kind y)) [
  | inl is ↦ some_first (rw is at none)
  | inr fails ↦ elim (eqb_tells y.id x.id) [
    | inl hit ↦ (let same = is_first y ys x.id x hit.0 found in clash (subst (λ (z : Actor). is_of owner kind z ≡ false) same fails) met)
    | inr miss ↦ some_of_kind owner kind ys x (rw miss.0 at found) met (rw fails at none)
  ]
]
  where
    some_first : y.id ∷ ids_of_kind ys owner kind ≡ [] → ⊥
    some_first some = absurd (cc)

-- what a refinery is, part by part
parts_of : (p q r : Bool) → ((p && q) && r) ≡ true → (p ≡ true) × (q ≡ true) × (r ≡ true)
parts_of true true true met = (refl, refl, refl)
parts_of true true false met = absurd (cc)
parts_of true false r met = absurd (cc)
parts_of false q r met = absurd (cc)

of_parts : (p q r : Bool) → p ≡ true → q ≡ true → r ≡ true → ((p && q) && r) ≡ true
of_parts true true true met also too = refl
of_parts true true false met also too = absurd (cc)
of_parts true false r met also too = absurd (cc)
of_parts false q r met also too = absurd (cc)

of_own_kind : (owner : ℕ) (x : Actor) → eqb x.body.owner owner ≡ true → is_of owner x.kind x ≡ true
of_own_kind owner x met = let same : eqb x.kind x.kind ≡ true = grind (arith, nat_tests) in rw (met, same) refl

kind_is : (owner kind : ℕ) (x : Actor) → is_of owner kind x ≡ true → (eqb x.body.owner owner ≡ true) × (x.kind ≡ kind)
kind_is owner kind x met = (grind (arith, nat_tests), grind (arith, nat_tests))

refinery_made : (rules : List Kind) (a : Actor) (kind : ℕ) (x : Actor) → is_some (kind_of rules kind).refinery ≡ true → is_of a.body.owner kind x ≡ true → is_other a x ≡ true → is_refinery_for rules a x ≡ true
refinery_made rules a kind x takes met lives =
    let is = kind_is a.body.owner kind x met in
    of_parts (is_other a x) (eqb x.body.owner a.body.owner) (is_some (kind_of rules x.kind).refinery) lives is.0
    (subst (λ n. is_some (kind_of rules n).refinery ≡ true) (sym is.1) takes)

refinery_parts : (rules : List Kind) (a x : Actor) → is_refinery_for rules a x ≡ true → (is_other a x ≡ true) × (is_of a.body.owner x.kind x ≡ true) × (is_some (kind_of rules x.kind).refinery ≡ true)
refinery_parts rules a x fits =
    let is = parts_of (is_other a x) (eqb x.body.owner a.body.owner) (is_some (kind_of rules x.kind).refinery) fits in
    (is.0, of_own_kind a.body.owner x is.1, is.2)

each_found : (actors : List Actor) → IdsRise actors → AllByRecursion (λ (y : Actor). actor_of actors y.id ≡ Some y) actors
each_found actors rise = recursion_from_All (λ (y : Actor). actor_of actors y.id ≡ Some y) actors (λ i d within. found_at actors i d rise within)

by_number : (n k bound : ℕ) (P : Type 0) → n < suc k → (n < bound → P) → (bound ≤ n → n < k → P) → (n ≡ k → P) → P
by_number n k bound P within low mid top = elim (eqb_tells n k) [
  | inl same ↦ top same.1
  | inr other ↦ elim (bool_tells (ltb n bound)) [
    | inl lt ↦ low (less_if n bound lt)
    | inr ge ↦ mid (least_if n bound ge) (omega (arith, within, other.1))
  ]
]

-- after the actors of one kind more
pub kind_turn : (rules : List Kind) (actors : List Actor) (a : Actor) (best : Option Actor) (bound kind next : ℕ) → next ≡ suc kind → IdsRise actors → IsNextKind actors a.body.owner bound (Some kind) → IsNearest a.cell (IsRefineryBelow rules actors a bound) best → IsNearest a.cell (IsRefineryBelow rules actors a next) (best_of_kind rules actors a kind best)
kind_turn rules actors a best bound kind next is rise found nearest = elim (bool_tells (is_some (kind_of rules kind).refinery)) [
  | inl takes ↦ rw takes (nearest_same a.cell (λ x. IsRefineryBelow rules actors a bound x ⊎ (Named actors (listed_of actors a.body.owner kind) x × (is_other a x ≡ true))) (IsRefineryBelow rules actors a next) (best_of actors a best (listed_of actors a.body.owner kind)) (to takes) (back takes) (best_nearest actors a (listed_of actors a.body.owner kind) (IsRefineryBelow rules actors a bound) best nearest))
  | inr passed ↦ rw passed (nearest_same a.cell (IsRefineryBelow rules actors a bound) (IsRefineryBelow rules actors a next) best (λ x below. record { refinery = below.refinery; below = omega (arith, below.below, found.0, is) }) (stays passed) nearest)
]
  where
    none : (x : Actor) → actor_of actors x.id ≡ Some x → is_of a.body.owner x.kind x ≡ true → bound ≤ x.kind → x.kind < kind → ⊥
    none x there own low high = some_of_kind a.body.owner x.kind actors x there own (found.2 x.kind low high)

    to : is_some (kind_of rules kind).refinery ≡ true → (x : Actor) → IsRefineryBelow rules actors a bound x ⊎ (Named actors (listed_of actors a.body.owner kind) x × (is_other a x ≡ true)) → IsRefineryBelow rules actors a next x
    to takes x (inl below) = record { refinery = below.refinery; below = omega (arith, below.below, found.0, is) }
    to takes x (inr one) =
        let there = named_there actors a.body.owner kind actors x (each_found actors rise) one.0 in
        record {
          refinery = record { there = there.0; fits = refinery_made rules a kind x takes there.1 one.1 };
          below = omega (arith, (kind_is a.body.owner kind x there.1).1, is);
        }

    back : is_some (kind_of rules kind).refinery ≡ true → (x : Actor) → IsRefineryBelow rules actors a next x → IsRefineryBelow rules actors a bound x ⊎ (Named actors (listed_of actors a.body.owner kind) x × (is_other a x ≡ true))
    back takes x below =
        let parts = refinery_parts rules a x below.refinery.fits in
        by_number x.kind kind bound _ (omega (arith, below.below, is))
        (λ low. inl (record { refinery = below.refinery; below = low }))
        (λ low high. absurd (none x below.refinery.there parts.1 low high))
        (λ same. inr (named_back actors a.body.owner kind actors x below.refinery.there below.refinery.there (subst (λ n. is_of a.body.owner n x ≡ true) same parts.1), parts.0))

    stays : is_some (kind_of rules kind).refinery ≡ false → (x : Actor) → IsRefineryBelow rules actors a next x → IsRefineryBelow rules actors a bound x
    stays passed x below =
        let parts = refinery_parts rules a x below.refinery.fits in
        by_number x.kind kind bound _ (omega (arith, below.below, is))
        (λ low. record { refinery = below.refinery; below = low })
        (λ low high. absurd (none x below.refinery.there parts.1 low high))
        (λ same. clash passed (subst (λ n. is_some (kind_of rules n).refinery ≡ true) same parts.2))

-- before the first kind
pub none_below : (rules : List Kind) (actors : List Actor) (a : Actor) → IsNearest a.cell (IsRefineryBelow rules actors a 0) None
none_below rules actors a y below = omega (arith, below.below)

-- by a pass over all, which is what the definition says
record IsChosen (rules : List Kind) (a best : Actor) (least : ℕ) (actors : List Actor) (r : Actor) : Type 0 where
  pub from : (r ≡ best) ⊎ ((actor_of actors r.id ≡ Some r) × (is_refinery_for rules a r ≡ true) × (least ≤ r.id))
  pub first : IsAsNear a.cell r best
  pub each : (y : Actor) → actor_of actors y.id ≡ Some y → is_refinery_for rules a y ≡ true → IsAsNear a.cell r y

found_later : (b : Actor) (actors : List Actor) (x : Actor) → b.id + 1 ≤ x.id → actor_of actors x.id ≡ Some x → actor_of (b ∷ actors) x.id ≡ Some x
found_later b actors x below found = let other : eqb b.id x.id ≡ false = grind (arith, nat_tests) in rw other found

found_here : (b : Actor) (actors : List Actor) → actor_of (b ∷ actors) b.id ≡ Some b
found_here b actors = let same : eqb b.id b.id ≡ true = grind (arith, nat_tests) in rw same refl

passed_over : (rules : List Kind) (a best : Actor) (least : ℕ) (b : Actor) (actors : List Actor) (r : Actor) → least ≤ b.id → is_refinery_for rules a b ≡ false → IsChosen rules a best (b.id + 1) actors r → IsChosen rules a best least (b ∷ actors) r
passed_over rules a best least b actors r low fails chosen =
    record { from = from chosen.from; first = chosen.first; each = each }
  where
    from : (r ≡ best) ⊎ ((actor_of actors r.id ≡ Some r) × (is_refinery_for rules a r ≡ true) × (b.id + 1 ≤ r.id)) → (r ≡ best) ⊎ ((actor_of (b ∷ actors) r.id ≡ Some r) × (is_refinery_for rules a r ≡ true) × (least ≤ r.id))
    from (inl same) = inl same
    from (inr is) = inr (found_later b actors r is.2 is.0, is.1, omega (arith, is.2, low))

    each : (y : Actor) → actor_of (b ∷ actors) y.id ≡ Some y → is_refinery_for rules a y ≡ true → IsAsNear a.cell r y
    each y found fits = elim (eqb_tells b.id y.id) [
      | inl hit ↦ clash (subst (λ (z : Actor). is_refinery_for rules a z ≡ false) (is_first b actors y.id y hit.0 found) fails) fits
      | inr miss ↦ chosen.each y (rw miss.0 at found) fits
    ]

taken_in : (rules : List Kind) (a best : Actor) (least : ℕ) (b : Actor) (actors : List Actor) (r : Actor) (nearer : Bool) → ltb (dist_sq_of a.cell b.cell) (dist_sq_of a.cell best.cell) ≡ nearer → least ≤ b.id → best.id < b.id → is_refinery_for rules a b ≡ true → IsChosen rules a (cond nearer b best) (b.id + 1) actors r → IsChosen rules a best least (b ∷ actors) r
taken_in rules a best least b actors r true is low above met chosen =
    record {
      from = inr (from chosen.from);
      first = as_near_next a.cell r b best chosen.first (inl (less_if (dist_sq_of a.cell b.cell) (dist_sq_of a.cell best.cell) is));
      each = each;
    }
  where
    from : (r ≡ b) ⊎ ((actor_of actors r.id ≡ Some r) × (is_refinery_for rules a r ≡ true) × (b.id + 1 ≤ r.id)) → (actor_of (b ∷ actors) r.id ≡ Some r) × (is_refinery_for rules a r ≡ true) × (least ≤ r.id)
    from (inl same) = subst (λ (z : Actor). (actor_of (b ∷ actors) z.id ≡ Some z) × (is_refinery_for rules a z ≡ true) × (least ≤ z.id)) (sym same) (found_here b actors, met, low)
    from (inr is) = (found_later b actors r is.2 is.0, is.1, omega (arith, is.2, low))

    each : (y : Actor) → actor_of (b ∷ actors) y.id ≡ Some y → is_refinery_for rules a y ≡ true → IsAsNear a.cell r y
    each y found fits = elim (eqb_tells b.id y.id) [
      | inl hit ↦ subst (IsAsNear a.cell r) (is_first b actors y.id y hit.0 found) chosen.first
      | inr miss ↦ chosen.each y (rw miss.0 at found) fits
    ]
taken_in rules a best least b actors r false is low above met chosen =
    record { from = from chosen.from; first = chosen.first; each = each }
  where
    from : (r ≡ best) ⊎ ((actor_of actors r.id ≡ Some r) × (is_refinery_for rules a r ≡ true) × (b.id + 1 ≤ r.id)) → (r ≡ best) ⊎ ((actor_of (b ∷ actors) r.id ≡ Some r) × (is_refinery_for rules a r ≡ true) × (least ≤ r.id))
    from (inl same) = inl same
    from (inr is) = inr (found_later b actors r is.2 is.0, is.1, omega (arith, is.2, low))

    near : IsAsNear a.cell r b
    near = as_near_next a.cell r best b chosen.first (before_by (dist_sq_of a.cell best.cell) (dist_sq_of a.cell b.cell) best.id b.id is (omega (arith, above)))

    each : (y : Actor) → actor_of (b ∷ actors) y.id ≡ Some y → is_refinery_for rules a y ≡ true → IsAsNear a.cell r y
    each y found fits = elim (eqb_tells b.id y.id) [
      | inl hit ↦ subst (IsAsNear a.cell r) (is_first b actors y.id y hit.0 found) near
      | inr miss ↦ chosen.each y (rw miss.0 at found) fits
    ]

abbrev AreFrom : ℕ → List Actor → Type 0
AreFrom least actors = RisesFrom (λ (x : Actor). x.id) least actors

fold_chosen : (rules : List Kind) (a best : Actor) (least : ℕ) (actors : List Actor) → AreFrom least actors → best.id < least → IsChosen rules a best least actors (fold (lesser_by (λ (x : Actor). dist_sq_of a.cell x.cell)) best (filter (is_refinery_for rules a) actors))
fold_chosen rules a best least [] rises below = record { from = inl refl; first = as_near_self a.cell best; each = λ y found fits. absurd (nothing y.id y found) }
fold_chosen rules a best least (b ∷ actors) rises below = elim (bool_tells (is_refinery_for rules a b)) [
  | inl met ↦ rw met (taken_in rules a best least b actors _ (ltb (dist_sq_of a.cell b.cell) (dist_sq_of a.cell best.cell)) refl rises.0 (omega (arith, rises.0)) met
      (fold_chosen rules a (lesser_by (λ (x : Actor). dist_sq_of a.cell x.cell) best b) (b.id + 1) actors rises.1 (least_below (ltb (dist_sq_of a.cell b.cell) (dist_sq_of a.cell best.cell)))))
  | inr fails ↦ rw fails (passed_over rules a best least b actors _ rises.0 fails (fold_chosen rules a best (b.id + 1) actors rises.1 (omega (arith, rises.0))))
]
  where
    least_below : (nearer : Bool) → (cond nearer b best).id < b.id + 1
    least_below true = omega arith
    least_below false = omega (arith, below, rises.0)

found_from : (least id : ℕ) (actors : List Actor) (x : Actor) → AreFrom least actors → actor_of actors id ≡ Some x → least ≤ id
found_from least id [] x rises found = absurd (cc)
found_from least id (y ∷ actors) x rises found = elim (eqb_tells y.id id) [
  | inl hit ↦ omega (arith, rises.0, hit.1)
  | inr miss ↦ omega (arith, rises.0, found_from (y.id + 1) id actors x rises.1 (rw miss.0 at found))
]

first_nearest : (rules : List Kind) (a : Actor) (least : ℕ) (actors : List Actor) → AreFrom least actors → IsNearest a.cell (IsRefinery rules actors a) (reduce (lesser_by (λ (x : Actor). dist_sq_of a.cell x.cell)) (filter (is_refinery_for rules a) actors))
first_nearest rules a least [] rises = λ y one. nothing y.id y one.there
first_nearest rules a least (b ∷ actors) rises = elim (bool_tells (is_refinery_for rules a b)) [
  | inl met ↦ rw met (chosen_nearest _ met (fold_chosen rules a b (b.id + 1) actors rises.1 (omega arith)))
  | inr fails ↦ rw fails (nearest_same a.cell (IsRefinery rules actors a) (IsRefinery rules (b ∷ actors) a) _ to (back fails) (first_nearest rules a (b.id + 1) actors rises.1))
]
  where
    chosen_nearest : (r : Actor) → is_refinery_for rules a b ≡ true → IsChosen rules a b (b.id + 1) actors r → IsNearest a.cell (IsRefinery rules (b ∷ actors) a) (Some r)
    chosen_nearest r met chosen = (among chosen.from, λ y one. each y one)
      where
        among : (r ≡ b) ⊎ ((actor_of actors r.id ≡ Some r) × (is_refinery_for rules a r ≡ true) × (b.id + 1 ≤ r.id)) → IsRefinery rules (b ∷ actors) a r
        among (inl same) = subst (IsRefinery rules (b ∷ actors) a) (sym same) (record { there = found_here b actors; fits = met })
        among (inr is) = record { there = found_later b actors r is.2 is.0; fits = is.1 }

        each : (y : Actor) → IsRefinery rules (b ∷ actors) a y → IsAsNear a.cell r y
        each y one = elim (eqb_tells b.id y.id) [
          | inl hit ↦ subst (IsAsNear a.cell r) (is_first b actors y.id y hit.0 one.there) chosen.first
          | inr miss ↦ chosen.each y (rw miss.0 at one.there) one.fits
        ]

    to : (x : Actor) → IsRefinery rules actors a x → IsRefinery rules (b ∷ actors) a x
    to x one = record { there = found_later b actors x (found_from (b.id + 1) x.id actors x rises.1 one.there) one.there; fits = one.fits }

    back : is_refinery_for rules a b ≡ false → (x : Actor) → IsRefinery rules (b ∷ actors) a x → IsRefinery rules actors a x
    back fails x one = elim (eqb_tells b.id x.id) [
      | inl hit ↦ clash (subst (λ (z : Actor). is_refinery_for rules a z ≡ false) (is_first b actors x.id x hit.0 one.there) fails) one.fits
      | inr miss ↦ record { there = rw miss.0 at one.there; fits = one.fits }
    ]

are_from : (least : ℕ) (actors : List Actor) → IdsRise actors → ((i : ℕ) (d : Actor) → i < length actors → least ≤ (get_or actors i d).id) → AreFrom least actors
are_from least [] rise low = tt
are_from least (b ∷ actors) rise low =
    (low 0 b (omega arith), are_from (b.id + 1) actors (λ i j d lt within. rise (suc i) (suc j) d (omega arith) (omega arith)) (λ i d within. let above : b.id < (get_or actors i d).id = rise 0 (suc i) d (omega arith) (omega arith) in omega (arith, above)))

definition_nearest : (rules : List Kind) (actors : List Actor) (a : Actor) → IdsRise actors → IsNearest a.cell (IsRefinery rules actors a) (nearest_refinery rules actors a)
unfolding nearest_refinery
definition_nearest rules actors a rise = first_nearest rules a 0 actors (are_from 0 actors rise (λ i d within. omega arith))

-- a refinery in words, and back
in_words : (rules : List Kind) (actors : List Actor) (a x : Actor) → IsRefinery rules actors a x → IsOtherRefinery rules actors a x
in_words rules actors a x one =
    let is = refinery_parts rules a x one.fits in
    record {
      there = one.there;
      other = grind (arith, nat_tests, is.0);
      health = grind (arith, nat_tests, is.0);
      owner = grind (arith, nat_tests, is.1);
      takes_ore = is.2;
    }

of_words : (rules : List Kind) (actors : List Actor) (a x : Actor) → IsOtherRefinery rules actors a x → IsRefinery rules actors a x
of_words rules actors a x words =
    let other : not (eqb x.id a.id) ≡ true = grind (arith, nat_tests, words.other) in
    let lives : ltb 0 x.body.health ≡ true = grind (arith, nat_tests, words.health) in
    let owner : eqb x.body.owner a.body.owner ≡ true = grind (arith, nat_tests, words.owner) in
    record {
      there = words.there;
      fits = of_parts (is_other a x) (eqb x.body.owner a.body.owner) (is_some (kind_of rules x.kind).refinery) (rw (other, lives) refl) owner words.takes_ore;
    }

-- after the last kind
kinds_nearest : (rules : List Kind) (actors : List Actor) (a : Actor) (best : Option Actor) (bound : ℕ) → IsNextKind actors a.body.owner bound None → IsNearest a.cell (IsRefineryBelow rules actors a bound) best → IsNearest a.cell (IsRefinery rules actors a) best
kinds_nearest rules actors a best bound ended nearest =
    nearest_same a.cell (IsRefineryBelow rules actors a bound) (IsRefinery rules actors a) best (λ x below. below.refinery) back nearest
  where
    back : (x : Actor) → IsRefinery rules actors a x → IsRefineryBelow rules actors a bound x
    back x one = elim (bool_tells (ltb x.kind bound)) [
      | inl lt ↦ record { refinery = one; below = less_if x.kind bound lt }
      | inr ge ↦ absurd (some_of_kind a.body.owner x.kind actors x one.there (refinery_parts rules a x one.fits).1 (ended x.kind (least_if x.kind bound ge)))
    ]

pub nearest_in_words : (rules : List Kind) (actors : List Actor) (a : Actor) (best : Option Actor) (bound : ℕ) → IsNextKind actors a.body.owner bound None → IsNearest a.cell (IsRefineryBelow rules actors a bound) best → IsNearest a.cell (IsOtherRefinery rules actors a) best
nearest_in_words rules actors a best bound ended nearest =
    nearest_same a.cell (IsRefinery rules actors a) (IsOtherRefinery rules actors a) best (in_words rules actors a) (of_words rules actors a) (kinds_nearest rules actors a best bound ended nearest)

-- and that is what the definition says
pub kinds_end : (rules : List Kind) (actors : List Actor) (a : Actor) (best : Option Actor) (bound : ℕ) → IdsRise actors → IsNextKind actors a.body.owner bound None → IsNearest a.cell (IsRefineryBelow rules actors a bound) best → best ≡ nearest_refinery rules actors a
kinds_end rules actors a best bound rise ended nearest =
    nearest_one actors a.cell (IsRefinery rules actors a) best (nearest_refinery rules actors a) (λ x one. one.there)
    (kinds_nearest rules actors a best bound ended nearest)
    (definition_nearest rules actors a rise)
