-- Lists that rise: their parts, an element more, and the search by number.
use Rattle.std.proofs.Common.{◌≡◌, ℕ, zero, suc, ◌+◌, ◌<◌, ◌≤◌, List, [], ◌∷◌, ◌++◌, length, get_or, Some, slice_get, subst, arith}
use Rattle.std.specs.List.{All, AllPairs, AllByRecursion, remove}
use Rattle.std.proofs.lemmas.Option.{same_Some}
use Rattle.actor_table.specs.Rising.{RisesFrom}

module _ {T : Type 0} (number : T → ℕ) where
  pub rises_weaker : (lower least : ℕ) (xs : List T) → lower ≤ least → RisesFrom number least xs → RisesFrom number lower xs
  rises_weaker lower least [] le rises = tt
  rises_weaker lower least (x ∷ xs) le rises = (omega (arith, rises.0), rises.1)

  -- every element is at least the first bound
  pub rises_at : (least : ℕ) (xs : List T) (i : ℕ) (x : T) → RisesFrom number least xs → slice_get xs i ≡ Some x → least ≤ number x
  rises_at least [] i x rises at = absurd (cc)
  rises_at least (y ∷ xs) zero x rises at = subst (λ (z : T). least ≤ number z) (same_Some y x at) rises.0
  rises_at least (y ∷ xs) (suc i) x rises at = omega (arith, rises.0, rises_at (number y + 1) xs i x rises.1 at)

  -- and so is the one at an index
  pub rises_index : (least : ℕ) (xs : List T) (i : ℕ) (d : T) → RisesFrom number least xs → i < length xs → least ≤ number (get_or xs i d)
  rises_index least [] i d rises within = absurd (omega arith)
  rises_index least (x ∷ xs) zero d rises within = rises.0
  rises_index least (x ∷ xs) (suc i) d rises within = omega (arith, rises.0, rises_index (number x + 1) xs i d rises.1 (omega arith))

  -- an earlier element is below a later one
  pub rises_pair : (least : ℕ) (xs : List T) (i j : ℕ) (d : T) → RisesFrom number least xs → i < j → j < length xs → number (get_or xs i d) < number (get_or xs j d)
  rises_pair least [] i j d rises lt within = absurd (omega arith)
  rises_pair least (x ∷ xs) i zero d rises lt within = absurd (omega arith)
  rises_pair least (x ∷ xs) zero (suc j) d rises lt within = omega (arith, rises_index (number x + 1) xs j d rises.1 (omega arith))
  rises_pair least (x ∷ xs) (suc i) (suc j) d rises lt within = rises_pair (number x + 1) xs i j d rises.1 (omega arith) (omega arith)

  pub rises_remove : (least : ℕ) (xs : List T) (i : ℕ) → RisesFrom number least xs → RisesFrom number least (remove xs i)
  rises_remove least [] zero rises = tt
  rises_remove least [] (suc i) rises = tt
  rises_remove least (x ∷ xs) zero rises = rises_weaker least (number x + 1) xs (omega (arith, rises.0)) rises.1
  rises_remove least (x ∷ xs) (suc i) rises = (rises.0, rises_remove (number x + 1) xs i rises.1)

  pub rises_push : (least : ℕ) (xs : List T) (x : T) → RisesFrom number least xs → least ≤ number x → AllByRecursion (λ y. number y < number x) xs → RisesFrom number least (xs ++ x ∷ [])
  rises_push least [] x rises le above = (le, tt)
  rises_push least (y ∷ xs) x rises le above = (rises.0, rises_push (number y + 1) xs x rises.1 (omega (arith, above.0)) above.1)

  -- a bound on all, from one below them
  pub all_above : (least : ℕ) (xs : List T) → RisesFrom number least xs → AllByRecursion (λ y. least ≤ number y) xs
  all_above least [] rises = tt
  all_above least (x ∷ xs) rises = (rises.0, all_above least xs (rises_weaker least (number x + 1) xs (omega (arith, rises.0)) rises.1))

  -- each element is below all later ones
  pub rises_from_pairs : (least : ℕ) (xs : List T) → All (λ x. least ≤ number x) xs → AllPairs (λ x y. number x < number y) xs → RisesFrom number least xs
  rises_from_pairs least [] low pairs = tt
  rises_from_pairs least (x ∷ xs) low pairs = (low 0 x (omega arith), rises_from_pairs (number x + 1) xs (λ k d within. omega (arith, pairs 0 (suc k) d (omega arith) (omega arith))) (λ i j d lt within. pairs (suc i) (suc j) d (omega arith) (omega arith)))
