-- A table of a list of actors: the actors before each one, and the index after one sort.
use Rattle.std.proofs.Common.{◌≡◌, ◌≢◌, ℕ, zero, suc, ◌+◌, ◌<◌, ◌≤◌, eqb, ltb, true, false, ◌&&◌, cond, List, [], ◌∷◌, ◌++◌, length, get_or, take, map, Option, Some, inl, inr, refl, sym, subst, ap, ◌∙◌, arith}
use Rattle.std.specs.List.{All, AllPairs, AllByRecursion, sum_by}
use Rattle.std.specs.List.Sorted.{IsPermutation, IsNonDecreasingBy}
use Rattle.std.proofs.lemmas.Bool.Decides.{nat_tests}
use Rattle.std.proofs.lemmas.List.{length-map, take_more}
use Rattle.std.proofs.lemmas.List.Elements.{recursion_from_All, All-nil, All-cons}
use Rattle.std.proofs.lemmas.List.Sorted.{All-permutation, length_permutation, sum_by-IsPermutation}
use Rattle.std.proofs.lemmas.List.Sums.{sum_by-cons}
use Rattle.game_model.proofs.StartLemmas.{pairs_tail}
use Rattle.game_model.specs.declared.actor.Actor.{Actor}
use Rattle.game_model.specs.declared.limits.TheConstants.{MAX_ACTORS}
use Rattle.game_model.specs.Grid.{Grid, IsOn, with_cell}
use Rattle.game_model.specs.World.{is_occupied}
use Rattle.actor_table.specs.Kinds.{is_of, ids_of_kind, listed_as, is_listed, ids_listed, rank_of, IsEntry, IsSortedIndex, ListsActors}
use Rattle.actor_table.specs.Table.{IsIndexed}
use Rattle.actor_table.specs.declared.listed.Listed.{Listed}
use Rattle.actor_table.proofs.Rising.{rises_weaker, rises_from_pairs}
use Rattle.actor_table.proofs.Holders.{bool_cases, cell_cases, ActorsRise}
use Rattle.actor_table.proofs.TableCalls.{indexed_push}
use Rattle.actor_table.proofs.KindLists.{ids_not_below}
use Rattle.actor_table.proofs.KindCalls.{ltb_true, ltb_false}

-- the actors before one have lower ids
pub lower_before : (actors : List Actor) (i : ℕ) (a : Actor) → i < length actors → a ≡ get_or actors i a → AllPairs (λ (x y : Actor). x.id < y.id) actors → All (λ (x : Actor). x.id < a.id) (take i actors)
lower_before [] i a within is rise = absurd (omega arith)
lower_before (b ∷ actors) zero a within is rise = All-nil (λ (x : Actor). x.id < a.id)
lower_before (b ∷ actors) (suc i) a within is rise =
    All-cons (λ (x : Actor). x.id < a.id) b (take i actors) (subst (λ (x : Actor). b.id < x.id) (sym is) (rise 0 (suc i) a (omega arith) within))
    (lower_before actors i a (omega arith) is (pairs_tail (λ (x y : Actor). x.id < y.id) b actors rise))

-- and none of them holds its cell
pub free_before : (actors : List Actor) (i : ℕ) (a : Actor) → i < length actors → a ≡ get_or actors i a → AllPairs (λ (x y : Actor). x.cell ≢ y.cell) actors → is_occupied (take i actors) a.cell ≡ false
free_before [] i a within is apart = absurd (omega arith)
free_before (b ∷ actors) zero a within is apart = refl
free_before (b ∷ actors) (suc i) a within is apart =
    let differs : b.cell ≢ a.cell = subst (λ (x : Actor). b.cell ≢ x.cell) (sym is) (apart 0 (suc i) a (omega arith) within) in
    let rest = free_before actors i a (omega arith) is (pairs_tail (λ (x y : Actor). x.cell ≢ y.cell) b actors apart) in
    elim (cell_cases b.cell a.cell) [
      | inl same ↦ absurd (differs same.1)
      | inr other ↦ rw other rest
    ]

-- numbers that do not fall, the first at least this one
abbrev Ascends : ℕ → List ℕ → Type 0
Ascends least [] = Unit {0}
Ascends least (n ∷ ns) = (least ≤ n) × Ascends n ns

-- how often a number is there
abbrev times : ℕ → List ℕ → ℕ
times n [] = 0
times n (m ∷ ns) = cond (eqb m n) (suc (times n ns)) (times n ns)

other_number : (m n : ℕ) → n < m → eqb m n ≡ false
other_number m n lt = grind (arith, nat_tests)

same_number : (n : ℕ) → eqb n n ≡ true
same_number n = grind (arith, nat_tests)

never_below : (n least : ℕ) (ns : List ℕ) → n < least → Ascends least ns → times n ns ≡ 0
never_below n least [] lt up = refl
never_below n least (m ∷ ns) lt up = rw (other_number m n (omega (arith, up.0))) (never_below n m ns (omega (arith, up.0)) up.1)

times_first : (n : ℕ) (ns : List ℕ) → times n (n ∷ ns) ≡ suc (times n ns)
times_first n ns = rw (same_number n) refl

not_above : (x y : ℕ) (xs ys : List ℕ) → Ascends y ys → times x (x ∷ xs) ≡ times x (y ∷ ys) → y ≤ x
not_above x y xs ys up same = elim (bool_cases (ltb x y)) [
  | inl met ↦ absurd (clash (ltb_true x y met))
  | inr fails ↦ ltb_false x y fails
]
  where
    clash : x < y → ⊥
    clash lt =
        let none : times x (y ∷ ys) ≡ 0 = never_below x y (y ∷ ys) lt (omega arith, up) in
        omega (arith, times_first x xs, same, none)

times_after : (n x : ℕ) (xs ys : List ℕ) → times n (x ∷ xs) ≡ times n (x ∷ ys) → times n xs ≡ times n ys
times_after n x xs ys same = elim (bool_cases (eqb x n)) [
  | inl hit ↦ (let more : suc (times n xs) ≡ suc (times n ys) = rw hit at same in omega (arith, more))
  | inr miss ↦ rw miss at same
]

-- two such lists that have each number as often are the same
same_numbers : (least lower : ℕ) (xs ys : List ℕ) → Ascends least xs → Ascends lower ys → ((n : ℕ) → times n xs ≡ times n ys) → xs ≡ ys
same_numbers least lower [] [] up upper same = refl
same_numbers least lower [] (y ∷ ys) up upper same = absurd (omega (arith, same y, times_first y ys))
same_numbers least lower (x ∷ xs) [] up upper same = absurd (omega (arith, same x, times_first x xs))
same_numbers least lower (x ∷ xs) (y ∷ ys) up upper same =
    let first : y ≡ x = omega (arith, not_above x y xs ys upper.1 (same x), not_above y x ys xs up.1 (sym (same y))) in
    let both : (n : ℕ) → times n (x ∷ xs) ≡ times n (x ∷ ys) = subst (λ z. (n : ℕ) → times n (x ∷ xs) ≡ times n (z ∷ ys)) first same in
    let rest : xs ≡ ys = same_numbers x y xs ys up.1 upper.1 (λ n. times_after n x xs ys (both n)) in
    ap (λ ns. x ∷ ns) rest ∙ ap (λ z. z ∷ ys) (sym first)

-- the ids of an owner and a kind ascend, of entries sorted by rank and of actors
ids_ascend : (owner kind least : ℕ) (xs : List Listed) → IsNonDecreasingBy rank_of xs → AllByRecursion (λ (x : Listed). is_listed owner kind x ≡ true → least ≤ x.id) xs → Ascends least (ids_listed xs owner kind)
ids_ascend owner kind least [] ranks low = tt
ids_ascend owner kind least (x ∷ xs) ranks low = elim (bool_cases (is_listed owner kind x)) [
  | inl met ↦ rw met (low.0 met, ids_ascend owner kind x.id xs later (recursion_from_All (λ (y : Listed). is_listed owner kind y ≡ true → x.id ≤ y.id) xs (λ k d within also. ids_not_below owner kind (get_or xs k d) x also met (ranks 0 (suc k) d (omega arith) (omega arith)))))
  | inr fails ↦ rw fails (ids_ascend owner kind least xs later low.1)
]
  where
    later : IsNonDecreasingBy rank_of xs
    later = λ i j d le within. ranks (suc i) (suc j) d (omega arith) (omega arith)

kinds_ascend : (owner kind least : ℕ) (actors : List Actor) → ActorsRise least actors → Ascends least (ids_of_kind actors owner kind)
kinds_ascend owner kind least [] rises = tt
kinds_ascend owner kind least (a ∷ actors) rises = elim (bool_cases (is_of owner kind a)) [
  | inl met ↦ rw met (rises.0, kinds_ascend owner kind a.id actors (rises_weaker (λ (x : Actor). x.id) a.id (a.id + 1) actors (omega arith) rises.1))
  | inr fails ↦ rw fails (kinds_ascend owner kind least actors (rises_weaker (λ (x : Actor). x.id) least (a.id + 1) actors (omega (arith, rises.0)) rises.1))
]

ids_as_listed : (owner kind : ℕ) (actors : List Actor) → ids_listed (map listed_as actors) owner kind ≡ ids_of_kind actors owner kind
ids_as_listed owner kind [] = refl
ids_as_listed owner kind (a ∷ actors) =
    let rest = ids_as_listed owner kind actors in
    elim (bool_cases (is_of owner kind a)) [
      | inl met ↦ rw met (ap (λ ids. a.id ∷ ids) rest)
      | inr fails ↦ rw fails rest
    ]

-- 1 for an entry of an owner, a kind and an id
abbrev one_of : (owner kind id : ℕ) → Listed → ℕ
one_of owner kind id e = cond (is_listed owner kind e && eqb e.id id) 1 0

counted : (owner kind id : ℕ) (xs : List Listed) → sum_by (one_of owner kind id) xs ≡ times id (ids_listed xs owner kind)
counted owner kind id [] = refl
counted owner kind id (x ∷ xs) = sum_by-cons (one_of owner kind id) x xs ∙ ap (λ n. one_of owner kind id x + n) (counted owner kind id xs) ∙ first
  where
    first : one_of owner kind id x + times id (ids_listed xs owner kind) ≡ times id (ids_listed (x ∷ xs) owner kind)
    first = elim (bool_cases (is_listed owner kind x)) [
      | inl met ↦ elim (bool_cases (eqb x.id id)) [
        | inl hit ↦ rw (met, hit) (omega arith)
        | inr miss ↦ rw (met, miss) (omega arith)
      ]
      | inr fails ↦ rw fails (omega arith)
    ]

-- the entries of these actors, sorted by rank
pub lists_sorted : (actors : List Actor) (entries : List Listed) → AllPairs (λ (x y : Actor). x.id < y.id) actors → IsPermutation (map listed_as actors) entries → IsNonDecreasingBy rank_of entries → ListsActors entries actors
lists_sorted actors entries rise moved ranks =
    let rises : ActorsRise 0 actors = rises_from_pairs (λ (x : Actor). x.id) 0 actors (λ k d within. omega arith) rise in
    record {
      count = omega (arith, length_permutation (map listed_as actors) entries moved, length-map actors listed_as);
      ids = λ o k. same_numbers 0 0 (ids_listed entries o k) (ids_of_kind actors o k)
          (ids_ascend o k 0 entries ranks (recursion_from_All (λ (y : Listed). is_listed o k y ≡ true → 0 ≤ y.id) entries (λ i d within met. omega arith)))
          (kinds_ascend o k 0 actors rises)
          (λ n. sym (counted o k n entries) ∙ sum_by-IsPermutation (one_of o k n) (map listed_as actors) entries moved ∙ counted o k n (map listed_as actors) ∙ ap (times n) (ids_as_listed o k actors));
    }

pub sorted_index : (room : ℕ) (actors : List Actor) (pushed entries : List Listed) → pushed ≡ map listed_as actors → All IsEntry pushed → length actors ≤ MAX_ACTORS → MAX_ACTORS ≤ room → IsPermutation pushed entries → IsNonDecreasingBy rank_of entries → IsSortedIndex room entries
sorted_index room actors pushed entries is fit count enough moved ranks =
    record {
      sorted = ranks;
      fit = All-permutation IsEntry pushed entries moved fit;
      limit = omega (arith, length_permutation pushed entries moved, ap length is, length-map actors listed_as);
      enough = enough;
    }

-- one actor more on its cell
pub indexed_next : (cells new : Grid (Option ℕ)) (w h : ℕ) (actors : List Actor) (i : ℕ) (a : Actor) → (cells.width ≡ w) × (cells.height ≡ h) × IsIndexed cells (take i actors) → new ≡ with_cell cells a.cell (Some a.id) → i < length actors → a ≡ get_or actors i a → All (λ (x : Actor). IsOn w h x.cell) actors → AllPairs (λ (x y : Actor). x.cell ≢ y.cell) actors → (new.width ≡ w) × (new.height ≡ h) × IsIndexed new (take (i + 1) actors)
indexed_next cells new w h actors i a before is within at on_map apart =
    let here : IsOn w h a.cell = subst (λ (x : Actor). IsOn w h x.cell) (sym at) (on_map i a within) in
    let on : IsOn cells.width cells.height a.cell = rw (before.0, before.1) here in
    let more : take i actors ++ a ∷ [] ≡ take (i + 1) actors = ap (λ x. take i actors ++ x ∷ []) at ∙ sym (take_more actors i a within) in
    rw is (before.0, before.1, subst (IsIndexed (with_cell cells a.cell (Some a.id))) more (indexed_push cells (take i actors) a before.2 on (free_before actors i a within at apart)))
