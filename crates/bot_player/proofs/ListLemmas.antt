-- Steps of loops over lists.
use Rattle.std.proofs.Common.{◌≡◌, ℕ, zero, suc, ◌+◌, ◌-◌, ◌<◌, ◌≤◌, Bool, true, false, List, [], ◌∷◌, ◌++◌, length, take, drop, Option, Some, None, refl, sym, subst, ap, ◌∙◌, add-one, arith}
use Rattle.std.specs.Prelude.{find, fold, filter_map, option_to_list, slice_get}
use Rattle.std.specs.List.{cons_option, range_with_len}
use Rattle.std.proofs.lemmas.List.{drop_more, take-append-drop}
use Rattle.std.proofs.lemmas.List.Elements.{filter_map-append}
use Rattle.std.proofs.lemmas.List.Sums.{fold_more}
use Rattle.std.proofs.lemmas.Option.{get_or_from_slice_get, slice_get_within}
use Rattle.std.proofs.Math.Seq.{take-append_seam}

-- A fold takes in the element at a place.
pub fold_next :
    {X Y : Type 0} (f : Y → X → Y) (s : Y) (xs : List X) (i : ℕ) (x : X) → slice_get xs i ≡ Some x →
    f (fold f s (take i xs)) x ≡ fold f s (take (i + 1) xs)
fold_next {X} {Y} f s xs i x found =
    sym (fold_more f s xs i x (slice_get_within xs i x found)
    ∙ ap (f (fold f s (take i xs))) (get_or_from_slice_get xs i x x found))

made_suc :
    {X Y : Type 0} (f : X → Option Y) (xs : List X) (i : ℕ) (x : X) → slice_get xs i ≡ Some x →
    filter_map f (take i xs) ++ option_to_list (f x) ≡ filter_map f (take (suc i) xs)
made_suc f [] i x found = absurd (cc)
made_suc f (y ∷ xs) zero x found = one (f y) (f x) (ap f (same y x found))
  where
    same : {X : Type 0} (y x : X) → Some y ≡ Some x → y ≡ x
    same y x e = cc

    one : {Y : Type 0} (p q : Option Y) → p ≡ q → [] ++ option_to_list q ≡ cons_option p []
    one None q e = subst (λ r. [] ++ option_to_list r ≡ cons_option None []) e refl
    one (Some z) q e = subst (λ r. [] ++ option_to_list r ≡ cons_option (Some z) []) e refl
made_suc f (y ∷ xs) (suc i) x found =
    more (f y) (filter_map f (take i xs)) (filter_map f (take (suc i) xs)) (option_to_list (f x))
    (made_suc f xs i x found)
  where
    more :
        {Y : Type 0} (p : Option Y) (us vs ws : List Y) → us ++ ws ≡ vs →
        cons_option p us ++ ws ≡ cons_option p vs
    more None us vs ws e = e
    more (Some z) us vs ws e = ap (λ zs. z ∷ zs) e

-- So does what is made of each.
pub made_next :
    {X Y : Type 0} (f : X → Option Y) (xs : List X) (i : ℕ) (x : X) → slice_get xs i ≡ Some x →
    filter_map f (take i xs) ++ option_to_list (f x) ≡ filter_map f (take (i + 1) xs)
made_next f xs i x found = rw add-one (made_suc f xs i x found)

-- What was made of the first elements is the first so many of all, where it is so many.
pub made_first :
    {X Y : Type 0} (f : X → Option Y) (xs : List X) (i n : ℕ) → length (filter_map f (take i xs)) ≡ n →
    filter_map f (take i xs) ≡ take n (filter_map f xs)
made_first {X} {Y} f xs i n size =
    sym (ap (λ (k : ℕ). take k (filter_map f xs)) (sym size)
    ∙ ap (λ (ys : List X). take (length (filter_map f (take i xs))) (filter_map f ys)) (sym (take-append-drop i xs))
    ∙ ap (take (length (filter_map f (take i xs)))) (filter_map-append f (take i xs) (drop i xs))
    ∙ take-append_seam (filter_map f (take i xs)) (filter_map f (drop i xs)))

-- A search among numbers, from one of them on.
pub found_from :
    (test : ℕ → Bool) (n i : ℕ) → i < n → test i ≡ true →
    find test (range_with_len i (n - i)) ≡ Some i
found_from test n i below met =
    let left : n - i ≡ suc (n - (i + 1)) = omega arith in
    rw left (rw met refl)

pub later_from :
    (test : ℕ → Bool) (n i : ℕ) → i < n → test i ≡ false →
    find test (range_with_len i (n - i)) ≡ find test (range_with_len (i + 1) (n - (i + 1)))
later_from test n i below fails =
    let left : n - i ≡ suc (n - (i + 1)) = omega arith in
    rw left (rw fails refl)

-- A search among what is left of a list.
pub find_here :
    {X : Type 0} (test : X → Bool) (xs : List X) (i : ℕ) (x : X) → slice_get xs i ≡ Some x →
    test x ≡ true → find test (drop i xs) ≡ Some x
find_here test xs i x found met =
    rw (drop_more xs i x (slice_get_within xs i x found), get_or_from_slice_get xs i x x found, met) refl

pub find_later :
    {X : Type 0} (test : X → Bool) (xs : List X) (i : ℕ) (x : X) → slice_get xs i ≡ Some x →
    test x ≡ false → find test (drop i xs) ≡ find test (drop (i + 1) xs)
find_later test xs i x found fails =
    rw (drop_more xs i x (slice_get_within xs i x found), get_or_from_slice_get xs i x x found, fails) refl

pub find_end :
    {X : Type 0} (test : X → Bool) (xs : List X) (i : ℕ) → length xs ≤ i → find test (drop i xs) ≡ None
find_end test [] zero past = refl
find_end test [] (suc i) past = refl
find_end test (x ∷ xs) zero past = absurd (omega (arith, past))
find_end test (x ∷ xs) (suc i) past = find_end test xs i (omega (arith, past))
