-- Values that are written over the beginning of a list, one by one.
use Rattle.std.proofs.Common.{arith, ◌≡◌, ℕ, zero, suc, ◌+◌, ◌<◌, Bool, true, false, List, [], ◌∷◌, ◌++◌, map, take, drop, length, None, Some, refl, ap, sym, ◌∙◌}
use Rattle.std.specs.Prelude.{slice_get, slice_set}
use Rattle.std.specs.List.{range_with_len}
use mir.Val.{bool_byte}
use Rattle.game_orders.specs.Order.{flag_number}

-- A map has as many elements.
pub counted : {A B : Type 0} (f : A → B) (xs : List A) → length (map f xs) ≡ length xs
counted f [] = refl
counted f (x ∷ xs) = ap suc (counted f xs)

-- What stands in a list is found there.
pub inside : {A : Type 0} (xs : List A) (i : ℕ) → slice_get xs i ≡ None → i < length xs → ⊥
inside [] i at lt = absurd (omega arith)
inside (x ∷ xs) zero at lt = absurd cc
inside (x ∷ xs) (suc i) at lt = inside xs i at (omega arith)

-- An element of a map.
pub mapped : {A B : Type 0} (f : A → B) (xs : List A) (i : ℕ) (x : A) → slice_get xs i ≡ Some x → slice_get (map f xs) i ≡ Some (f x)
mapped f [] i x at = absurd cc
mapped f (y ∷ xs) zero x at = let same : y ≡ x = cc in ap (λ a. Some (f a)) same
mapped f (y ∷ xs) (suc i) x at = mapped f xs i x at

-- A number of a range.
pub ranged : (from count i : ℕ) → i < count → slice_get (range_with_len from count) i ≡ Some (from + i)
ranged from zero i lt = absurd (omega arith)
ranged from (suc count) zero lt = let e : from ≡ from + 0 = omega arith in ap Some e
ranged from (suc count) (suc i) lt =
    let e : from + 1 + i ≡ from + suc i = omega arith in ranged (from + 1) count i (omega (arith, lt)) ∙ ap Some e

one_written : {A : Type 0} (values old : List A) (i : ℕ) (x : A) → slice_get values i ≡ Some x → i < length old →
    slice_set (take i values ++ drop i old) i x ≡ take (suc i) values ++ drop (suc i) old
one_written [] old i x at lt = absurd cc
one_written (v ∷ values) [] i x at lt = absurd (omega arith)
one_written (v ∷ values) (o ∷ old) zero x at lt = let same : v ≡ x = cc in ap (λ a. a ∷ old) (sym same)
one_written (v ∷ values) (o ∷ old) (suc i) x at lt = ap (λ l. v ∷ l) (one_written values old i x at (omega arith))

-- One more value is written.
pub one_more : {A : Type 0} (values old now : List A) (i n : ℕ) (x : A) → n ≡ suc i → slice_get values i ≡ Some x → i < length old →
    now ≡ take i values ++ drop i old → slice_set now i x ≡ take n values ++ drop n old
one_more values old now i n x next at lt is =
    ap (λ l. slice_set l i x) is ∙ one_written values old i x at lt ∙ ap (λ k. take k values ++ drop k old) (sym next)

take_whole : {A : Type 0} (xs : List A) → take (length xs) xs ≡ xs
take_whole [] = refl
take_whole (x ∷ xs) = ap (λ l. x ∷ l) (take_whole xs)

-- All are written.
pub all_written : {A : Type 0} (values old now : List A) (i : ℕ) → i ≡ length values → now ≡ take i values ++ drop i old →
    now ≡ values ++ drop (length values) old
all_written values old now i end is =
    is ∙ ap (λ n. take n values ++ drop n old) end ∙ ap (λ l. l ++ drop (length values) old) (take_whole values)

pub set_length : {A : Type 0} (xs : List A) (i : ℕ) (x : A) → length (slice_set xs i x) ≡ length xs
set_length [] zero x = refl
set_length [] (suc i) x = refl
set_length (y ∷ xs) zero x = refl
set_length (y ∷ xs) (suc i) x = ap suc (set_length xs i x)

-- Two maps have as many elements as both lists.
pub both_counted : {A B C : Type 0} (f : A → C) (g : B → C) (xs : List A) (ys : List B) →
    length (map f xs ++ map g ys) ≡ length xs + length ys
both_counted f g [] ys = let all : length (map g ys) ≡ length ys = counted g ys in omega (arith, all)
both_counted f g (x ∷ xs) ys =
    let rest : length (map f xs ++ map g ys) ≡ length xs + length ys = both_counted f g xs ys in omega (arith, rest)

-- An element of the first.
pub in_front : {A B C : Type 0} (f : A → C) (g : B → C) (xs : List A) (ys : List B) (i : ℕ) (x : A) →
    slice_get xs i ≡ Some x → slice_get (map f xs ++ map g ys) i ≡ Some (f x)
in_front f g [] ys i x at = absurd cc
in_front f g (y ∷ xs) ys zero x at = let same : y ≡ x = cc in ap (λ a. Some (f a)) same
in_front f g (y ∷ xs) ys (suc i) x at = in_front f g xs ys i x at

-- An element of the second.
pub behind : {A B C : Type 0} (f : A → C) (g : B → C) (xs : List A) (ys : List B) (i k : ℕ) (y : B) →
    i ≡ length xs + k → slice_get ys k ≡ Some y → slice_get (map f xs ++ map g ys) i ≡ Some (g y)
behind f g [] ys i k y is at =
    let same : i ≡ k = omega (arith, is) in ap (slice_get (map g ys)) same ∙ mapped g ys k y at
behind f g (x ∷ xs) ys zero k y is at = absurd (omega (arith, is))
behind f g (x ∷ xs) ys (suc i) k y is at = behind f g xs ys i k y (omega (arith, is)) at

-- The byte of a flag.
pub byte_is : (flag : Bool) → bool_byte flag ≡ flag_number flag
byte_is true = refl
byte_is false = refl
