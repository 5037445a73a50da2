-- Lists read by place: numbers added up, and one element that is set.
use Rattle.std.proofs.Common.{◌≡◌, ◌≢◌, ℕ, zero, suc, ◌+◌, ◌<◌, ◌≤◌, List, [], ◌∷◌, ◌++◌, length, map, set, get_or, refl, sym, ap, subst, ⊎_elim, arith}
use Rattle.std.specs.Prelude.{slice_index}
use mathlib.Core.Option.{some, some-ne-none, some-injective}
use lib.ListN.{get_elem?}
use Rattle.atomic_table.proofs.Lists.{at_set}
use Rattle.frame_table.specs.Rule.{total}

module _ {A : Type 0} where
  pub set_some : (l : List A) (i : ℕ) (a b : A) → get_elem? l i ≡ some a → get_elem? (set l i b) i ≡ some b
  set_some [] i a b e = absurd (some-ne-none a (sym e))
  set_some (x ∷ xs) zero a b e = refl
  set_some (x ∷ xs) (suc i) a b e = set_some xs i a b e

  pub below_length : (l : List A) (i : ℕ) (a : A) → get_elem? l i ≡ some a → i < length l
  below_length [] i a e = absurd (some-ne-none a (sym e))
  below_length (x ∷ xs) zero a e = omega arith
  below_length (x ∷ xs) (suc i) a e = let n = below_length xs i a e in omega arith

  pub get_or_some : (l : List A) (i : ℕ) (a d : A) → get_elem? l i ≡ some a → get_or l i d ≡ a
  get_or_some [] i a d e = absurd (some-ne-none a (sym e))
  get_or_some (x ∷ xs) zero a d e = some-injective x a e
  get_or_some (x ∷ xs) (suc i) a d e = get_or_some xs i a d e

  pub get_or_set : (l : List A) (i : ℕ) (a d : A) → i < length l → get_or (set l i a) i d ≡ a
  get_or_set [] i a d n = absurd (omega arith)
  get_or_set (x ∷ xs) zero a d n = refl
  get_or_set (x ∷ xs) (suc i) a d n = get_or_set xs i a d (omega arith)

  pub get_or_other : (l : List A) (i j : ℕ) (a d : A) → j ≢ i → get_or (set l i a) j d ≡ get_or l j d
  get_or_other [] i j a d n = refl
  get_or_other (x ∷ xs) zero zero a d n = absurd (n refl)
  get_or_other (x ∷ xs) zero (suc j) a d n = refl
  get_or_other (x ∷ xs) (suc i) zero a d n = refl
  get_or_other (x ∷ xs) (suc i) (suc j) a d n = get_or_other xs i j a d (λ e. n (ap suc e))

  pub length_set : (l : List A) (i : ℕ) (a : A) → length (set l i a) ≡ length l
  length_set [] i a = refl
  length_set (x ∷ xs) zero a = refl
  length_set (x ∷ xs) (suc i) a = ap suc (length_set xs i a)

  pub map_set : {B : Type 0} (f : A → B) (l : List A) (i : ℕ) (a : A) → map f (set l i a) ≡ set (map f l) i (f a)
  map_set f [] i a = refl
  map_set f (x ∷ xs) zero a = refl
  map_set f (x ∷ xs) (suc i) a = ap (λ l. f x ∷ l) (map_set f xs i a)

  pub map_snoc : {B : Type 0} (f : A → B) (l : List A) (a : A) → map f (l ++ a ∷ []) ≡ map f l ++ f a ∷ []
  map_snoc f [] a = refl
  map_snoc f (x ∷ xs) a = ap (λ l. f x ∷ l) (map_snoc f xs a)

  pub total_set : (f : A → ℕ) (l : List A) (i : ℕ) (a b : A) → get_elem? l i ≡ some a → total f (set l i b) + f a ≡ total f l + f b
  total_set f [] i a b e = absurd (some-ne-none a (sym e))
  total_set f (x ∷ xs) zero a b e = let same : f x ≡ f a = ap f (some-injective x a e) in omega arith
  total_set f (x ∷ xs) (suc i) a b e = let rest = total_set f xs i a b e in omega arith

  pub total_snoc : (f : A → ℕ) (l : List A) (a : A) → total f (l ++ a ∷ []) ≡ total f l + f a
  total_snoc f [] a = omega arith
  total_snoc f (x ∷ xs) a = let rest = total_snoc f xs a in omega arith

  pub at_most_total : (f : A → ℕ) (l : List A) (i : ℕ) (a : A) → get_elem? l i ≡ some a → f a ≤ total f l
  at_most_total f [] i a e = absurd (some-ne-none a (sym e))
  at_most_total f (x ∷ xs) zero a e = let same : f x ≡ f a = ap f (some-injective x a e) in omega arith
  at_most_total f (x ∷ xs) (suc i) a e = let rest = at_most_total f xs i a e in omega arith

  pub two_at_most_total : (f : A → ℕ) (l : List A) (i j : ℕ) (a b : A) → get_elem? l i ≡ some a → get_elem? l j ≡ some b → j ≢ i → f a + f b ≤ total f l
  two_at_most_total f [] i j a b e n apart = absurd (some-ne-none a (sym e))
  two_at_most_total f (x ∷ xs) zero zero a b e n apart = absurd (apart refl)
  two_at_most_total f (x ∷ xs) zero (suc j) a b e n apart = let same : f x ≡ f a = ap f (some-injective x a e) in let rest = at_most_total f xs j b n in omega arith
  two_at_most_total f (x ∷ xs) (suc i) zero a b e n apart = let same : f x ≡ f b = ap f (some-injective x b n) in let rest = at_most_total f xs i a e in omega arith
  two_at_most_total f (x ∷ xs) (suc i) (suc j) a b e n apart = let rest = two_at_most_total f xs i j a b e n (λ s. apart (ap suc s)) in omega arith

  -- where an f of 0 has a g of 0
  abbrev pub Poor : (f g : A → ℕ) → List A → Type 0
  Poor f g l = (i : ℕ) (a : A) → get_elem? l i ≡ some a → f a ≡ 0 → g a ≡ 0

  pub all_poor : (f g : A → ℕ) (l : List A) → Poor f g l → total f l ≡ 0 → total g l ≡ 0
  all_poor f g [] poor none = refl
  all_poor f g (x ∷ xs) poor none =
      let here : g x ≡ 0 = poor 0 x refl (omega arith) in
      let rest : total g xs ≡ 0 = all_poor f g xs (λ i a e. poor (suc i) a e) (omega arith) in
      omega arith

  -- who has all of f has all of g
  pub alone : (f g : A → ℕ) (l : List A) (i : ℕ) (a : A) → Poor f g l → get_elem? l i ≡ some a → total f l ≡ f a → total g l ≡ g a
  alone f g [] i a poor e all = absurd (some-ne-none a (sym e))
  alone f g (x ∷ xs) zero a poor e all =
      let same : x ≡ a = some-injective x a e in
      let one : f x ≡ f a = ap f same in
      let other : g x ≡ g a = ap g same in
      let rest : total g xs ≡ 0 = all_poor f g xs (λ i b n. poor (suc i) b n) (omega arith) in
      omega arith
  alone f g (x ∷ xs) (suc i) a poor e all =
      let most = at_most_total f xs i a e in
      let here : g x ≡ 0 = poor 0 x refl (omega arith) in
      let rest : total g xs ≡ g a = alone f g xs i a (λ j b n. poor (suc j) b n) e (omega arith) in
      omega arith

  -- what holds of the element that is set and of all others holds of all
  pub all_set : (F : ℕ → A → Type 0) (l : List A) (i : ℕ) (w : A) → F i w → ((j : ℕ) (u : A) → j ≢ i → get_elem? l j ≡ some u → F j u) → (j : ℕ) (u : A) → get_elem? (set l i w) j ≡ some u → F j u
  all_set F l i w mine others j u e =
      ⊎_elim (λ (x : (j ≡ i) × (w ≡ u)). subst (λ (y : ℕ × A). F y.0 y.1) (λ k. (sym x.0 k, x.1 k)) mine)
      (λ (x : (j ≢ i) × (get_elem? l j ≡ some u)). others j u x.0 x.1) (at_set l i j w u e)

pub index_some : (l : List ℕ) (i a : ℕ) → get_elem? l i ≡ some a → slice_index l i ≡ a
index_some l i a e = get_or_some l i a _ e
