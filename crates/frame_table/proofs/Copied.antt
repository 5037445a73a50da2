-- The plays from a frame on, copied one after the other.
use Rattle.std.proofs.Common.{◌≡◌, ℕ, zero, suc, ◌+◌, ◌-◌, ◌<◌, ◌≤◌, ◌⊎◌, List, [], ◌∷◌, ◌++◌, length, take, drop, refl, sym, ap, ◌∙◌, inl, inr, ⊎_elim, arith, Some}
use Rattle.std.proofs.lemmas.List.{length-drop}
use Rattle.std.specs.Prelude.{slice_get, min}

module _ {A : Type 0} where
  pub take_past : (xs : List A) (k : ℕ) → length xs ≤ k → take k xs ≡ xs
  take_past [] zero past = refl
  take_past [] (suc k) past = refl
  take_past (x ∷ xs) zero past = absurd (omega arith)
  take_past (x ∷ xs) (suc k) past = ap (λ l. x ∷ l) (take_past xs k (omega arith))

  take_next : (xs : List A) (k : ℕ) (x : A) → slice_get xs k ≡ Some x → take (suc k) xs ≡ take k xs ++ x ∷ []
  take_next [] k x is = absurd cc
  take_next (y ∷ xs) zero x is = cc
  take_next (y ∷ xs) (suc k) x is = ap (λ l. y ∷ l) (take_next xs k x is)

  pub get_drop : (xs : List A) (n k at : ℕ) → n + k ≡ at → slice_get (drop n xs) k ≡ slice_get xs at
  get_drop xs zero k at is = ap (slice_get xs) (let so : k ≡ at = omega arith in so)
  get_drop [] (suc n) k at is = refl
  get_drop (x ∷ xs) (suc n) k zero is = absurd (omega arith)
  get_drop (x ∷ xs) (suc n) k (suc at) is = get_drop xs n k at (omega arith)

  pub none_copied : (xs : List A) (n : ℕ) → [] ≡ take (n - n) (drop n xs)
  none_copied xs n = by (drop n xs) (n - n) (omega arith)
    where
      by : (l : List A) (k : ℕ) → k ≡ 0 → [] ≡ take k l
      by [] zero is = refl
      by (x ∷ l) zero is = refl
      by l (suc k) is = absurd (omega arith)

  pub one_copied : (xs done : List A) (n at : ℕ) (x : A) → n ≤ at → done ≡ take (at - n) (drop n xs) → slice_get xs at ≡ Some x → done ++ x ∷ [] ≡ take (at + 1 - n) (drop n xs)
  one_copied xs done n at x from is got =
      let more : at + 1 - n ≡ suc (at - n) = omega arith in
      ap (λ l. l ++ x ∷ []) is
      ∙ sym (take_next (drop n xs) (at - n) x (get_drop xs n (at - n) at (omega arith) ∙ got))
      ∙ ap (λ k. take k (drop n xs)) (sym more)

  -- All that there are, or as many as are wanted.
  pub all_copied : (xs done : List A) (n at most : ℕ) → done ≡ take (at - n) (drop n xs) → ((length xs ≤ at) × (length xs ≤ n + most)) ⊎ (at ≡ n + most) → done ≡ take most (drop n xs)
  all_copied xs done n at most is (inl end) =
      let long = length-drop n xs in
      let a = end.0 in
      let b = end.1 in
      is ∙ take_past (drop n xs) (at - n) (omega arith) ∙ sym (take_past (drop n xs) most (omega arith))
  all_copied xs done n at most is (inr full) = is ∙ ap (λ k. take k (drop n xs)) (let so : at - n ≡ most = omega arith in so)

-- Where the copying ends.
pub end_is : (len n at most plus end : ℕ) → plus ≡ min (n + most) 4294967295 → end ≡ min len plus → len ≤ 262144 → (n ≤ end → at ≤ end) → end ≤ at → n < 4294967296 → ((len ≤ at) × (len ≤ n + most)) ⊎ (at ≡ n + most)
end_is len n at most plus end p e limit up down small = ⊎_elim
    (λ short. inl (let x : len ≤ at = grind (arith, p, e, limit, down, short) in x, short))
    (λ long. inr (let x : at ≡ n + most = grind (arith, p, e, limit, up, down, long, small) in x))
    (split len (n + most))
  where
    split : (a b : ℕ) → (a ≤ b) ⊎ (b < a)
    split zero b = inl (omega arith)
    split (suc a) zero = inr (omega arith)
    split (suc a) (suc b) = ⊎_elim (λ l. inl (omega arith)) (λ r. inr (omega arith)) (split a b)
