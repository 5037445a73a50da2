-- Numbers between words are told by their text.
use Rattle.std.proofs.Common.{◌≡◌, ◌<◌, ◌^◌, ℕ, ◌+◌, ◌%◌, Bool, true, false, List, [], ◌∷◌, ◌++◌, length}
use Rattle.std.proofs.Common.{refl, sym, ap, ap₂, subst, ◌∙◌, arith, cond, get_or}
use Rattle.std.specs.Prelude.{not}
use Rattle.std.specs.Char.{is_ascii_digit}
use Rattle.std.specs.Fmt.{decimal}
use Rattle.std.specs.List.{list_all, flat_map, AllByRecursion}
use Rattle.std.proofs.lemmas.Bool.{agree_below_at, and_from, and_parts}
use Rattle.std.proofs.lemmas.Fmt.{decimal_by_steps, decimal_injective, decimal_nonempty}
use Rattle.std.proofs.lemmas.List.{append_assoc, append_cancel_left}
use Rattle.std.proofs.lemmas.List.Folds.{list_all-append}
use Rattle.world_text.specs.Numbers.{IsHeld}

-- Two values with the same text, and what follows it.
pub record IsTold {X : Type 0} (a b : X) (left right : List ℕ) : Type 0 where
  pub same : a ≡ b
  pub rest : left ≡ right

-- No digit comes first.
abbrev pub stops : List ℕ → Bool
stops [] = true
stops (c ∷ rest) = not (is_ascii_digit c)

-- A word that begins with no digit.
abbrev pub is_word : List ℕ → Bool
is_word [] = false
is_word (c ∷ rest) = not (is_ascii_digit c)

pub word_stops : (word rest : List ℕ) → is_word word ≡ true → stops (word ++ rest) ≡ true
word_stops [] rest is = absurd cc
word_stops (c ∷ word) rest is = is

-- The digits at the start.
abbrev front : List ℕ → List ℕ
front [] = []
front (c ∷ rest) = cond (is_ascii_digit c) (c ∷ front rest) []

front_stops : (rest : List ℕ) → stops rest ≡ true → front rest ≡ []
front_stops [] is = refl
front_stops (c ∷ rest) is = by_digit (is_ascii_digit c) refl is
  where
    by_digit :
        (digit : Bool) → is_ascii_digit c ≡ digit → not (is_ascii_digit c) ≡ true →
        cond (is_ascii_digit c) (c ∷ front rest) [] ≡ []
    by_digit true is_digit none = absurd (let no : not true ≡ true = rw is_digit at none in cc)
    by_digit false is_digit none = rw is_digit refl

front_digits :
    (digits rest : List ℕ) → list_all is_ascii_digit digits ≡ true → stops rest ≡ true →
    front (digits ++ rest) ≡ digits
front_digits [] rest all is = front_stops rest is
front_digits (c ∷ digits) rest all is =
    let parts = and_parts (is_ascii_digit c) (list_all is_ascii_digit digits) all in
    rw parts.0 (ap (λ (more : List ℕ). c ∷ more) (front_digits digits rest parts.1 is))

all_digits : (n : ℕ) → n < 2 ^ 64 → list_all is_ascii_digit (decimal n) ≡ true
all_digits n small =
    let digit : (d : ℕ) → d < 10 → is_ascii_digit (48 + d) ≡ true =
    λ d low. agree_below_at (λ (d : ℕ). is_ascii_digit (48 + d)) (λ (d : ℕ). true) 10 d refl low in
    decimal_by_steps (λ n ds. list_all is_ascii_digit ds ≡ true)
    (λ n low. and_from (is_ascii_digit (48 + n)) true (digit n low) refl)
    (λ n ds high rest.
    list_all-append is_ascii_digit ds ((48 + n % 10) ∷ [])
    ∙ and_from (list_all is_ascii_digit ds) (list_all is_ascii_digit ((48 + n % 10) ∷ [])) rest
    (and_from (is_ascii_digit (48 + n % 10)) true (digit (n % 10) (omega arith)) refl))
    n small

-- A number before no digit.
pub number_told :
    (m n : ℕ) (left right : List ℕ) → IsHeld m → IsHeld n → stops left ≡ true →
    stops right ≡ true → decimal m ++ left ≡ decimal n ++ right → IsTold m n left right
number_told m n left right held held' is is' same =
    let digits : decimal m ≡ decimal n =
    sym (front_digits (decimal m) left (all_digits m held) is) ∙ ap front same
    ∙ front_digits (decimal n) right (all_digits n held') is' in
    record {
      same = decimal_injective m n held held' digits;
      rest =
          append_cancel_left (decimal n) left right
          (ap (λ (ds : List ℕ). ds ++ left) (sym digits) ∙ same);
    }

-- Where a digit must not come first no number does.
pub number_first :
    (n : ℕ) (left right : List ℕ) → IsHeld n → stops left ≡ true → left ≡ decimal n ++ right → ⊥
number_first n left right held is same =
    by_digits (decimal n) (decimal_nonempty n held) (all_digits n held) (ap stops (sym same) ∙ is)
  where
    by_digits :
        (digits : List ℕ) → 0 < length digits → list_all is_ascii_digit digits ≡ true →
        stops (digits ++ right) ≡ true → ⊥
    by_digits [] some all first = omega (arith, some)
    by_digits (c ∷ digits) some all first =
        let parts = and_parts (is_ascii_digit c) (list_all is_ascii_digit digits) all in
        let no : not true ≡ true = rw parts.0 at first in
        cc

-- Numbers, each after its word, and what follows them.
abbrev pub fields : (words : List (List ℕ)) → (numbers : List ℕ) → (rest : List ℕ) → List ℕ
fields [] numbers rest = rest
fields (word ∷ words) [] rest = rest
fields (word ∷ words) (n ∷ numbers) rest = word ++ (decimal n ++ fields words numbers rest)

fields_stop :
    (words : List (List ℕ)) (numbers rest : List ℕ) → list_all is_word words ≡ true →
    stops rest ≡ true → stops (fields words numbers rest) ≡ true
fields_stop [] numbers rest all is = is
fields_stop (word ∷ words) [] rest all is = is
fields_stop (word ∷ words) (n ∷ numbers) rest all is =
    let parts = and_parts (is_word word) (list_all is_word words) all in
    word_stops word (decimal n ++ fields words numbers rest) parts.0

pub fields_told :
    (words : List (List ℕ)) (ms ns left right : List ℕ) → list_all is_word words ≡ true →
    length ms ≡ length words → length ns ≡ length words → AllByRecursion IsHeld ms →
    AllByRecursion IsHeld ns → stops left ≡ true → stops right ≡ true →
    fields words ms left ≡ fields words ns right → IsTold ms ns left right
fields_told [] [] [] left right all many many' held held' is is' same =
    record { same = refl; rest = same }
fields_told [] [] (n ∷ ns) left right all many many' held held' is is' same =
    absurd (omega (arith, many'))
fields_told [] (m ∷ ms) ns left right all many many' held held' is is' same =
    absurd (omega (arith, many))
fields_told (word ∷ words) [] ns left right all many many' held held' is is' same =
    absurd (omega (arith, many))
fields_told (word ∷ words) (m ∷ ms) [] left right all many many' held held' is is' same =
    absurd (omega (arith, many'))
fields_told (word ∷ words) (m ∷ ms) (n ∷ ns) left right all many many' held held' is is' same =
    let parts = and_parts (is_word word) (list_all is_word words) all in
    let after : decimal m ++ fields words ms left ≡ decimal n ++ fields words ns right =
    append_cancel_left word (decimal m ++ fields words ms left)
    (decimal n ++ fields words ns right) same in
    let first =
    number_told m n (fields words ms left) (fields words ns right) held.0 held'.0
    (fields_stop words ms left parts.1 is) (fields_stop words ns right parts.1 is') after in
    let others =
    fields_told words ms ns left right parts.1 (omega (arith, many)) (omega (arith, many'))
    held.1 held'.1 is is' first.rest in
    record {
      same = ap₂ (λ (n : ℕ) (ns : List ℕ). n ∷ ns) first.same others.same;
      rest = others.rest;
    }

-- Items one after the other, where what follows them is no item, and meets what is asked of what
-- follows an item.
pub items_told :
    {X : Type 0} (Holds : X → Type 0) (text_of : X → List ℕ) (Follows : List ℕ → Type 0) →
    ((x : X) (rest : List ℕ) → Follows (text_of x ++ rest)) →
    ((x y : X) (left right : List ℕ) → Holds x → Holds y → Follows left → Follows right →
    text_of x ++ left ≡ text_of y ++ right → IsTold x y left right) →
    (xs ys : List X) (left right : List ℕ) → AllByRecursion Holds xs → AllByRecursion Holds ys →
    Follows left → Follows right →
    ((x : X) (rest : List ℕ) → text_of x ++ rest ≡ left → ⊥) →
    ((x : X) (rest : List ℕ) → text_of x ++ rest ≡ right → ⊥) →
    flat_map text_of xs ++ left ≡ flat_map text_of ys ++ right → IsTold xs ys left right
items_told Holds text_of Follows more one [] [] left right held held' f f' none none' same =
    record { same = refl; rest = same }
items_told Holds text_of Follows more one [] (y ∷ ys) left right held held' f f' none none' same =
    absurd (none y (flat_map text_of ys ++ right)
    (sym (same ∙ append_assoc (text_of y) (flat_map text_of ys) right)))
items_told Holds text_of Follows more one (x ∷ xs) [] left right held held' f f' none none' same =
    absurd (none' x (flat_map text_of xs ++ left)
    (sym (append_assoc (text_of x) (flat_map text_of xs) left) ∙ same))
items_told {X = X} Holds text_of Follows more one (x ∷ xs) (y ∷ ys) left right held held' f f' none none' same =
    let after =
    sym (append_assoc (text_of x) (flat_map text_of xs) left) ∙ same
    ∙ append_assoc (text_of y) (flat_map text_of ys) right in
    let first =
    one x y (flat_map text_of xs ++ left) (flat_map text_of ys ++ right) held.0 held'.0
    (followed xs left f) (followed ys right f') after in
    let others =
    items_told Holds text_of Follows more one xs ys left right held.1 held'.1 f f' none none'
    first.rest in
    record {
      same = ap₂ (λ (a : X) (l : List X). a ∷ l) first.same others.same;
      rest = others.rest;
    }
  where
    followed : (zs : List X) (rest : List ℕ) → Follows rest → Follows (flat_map text_of zs ++ rest)
    followed [] rest f = f
    followed (z ∷ zs) rest f =
        subst Follows (sym (append_assoc (text_of z) (flat_map text_of zs) rest))
        (more z (flat_map text_of zs ++ rest))

-- The number at a place, 0 past the end.
abbrev pub nth : ℕ → List ℕ → ℕ
nth k numbers = get_or numbers k 0

-- What stands after a text of so many parts.
pub regroup_3 : (a b c r : List ℕ) → ((a ++ b) ++ c) ++ r ≡ a ++ (b ++ (c ++ r))
regroup_3 a b c r = simp append_assoc

pub regroup_4 : (a b c d r : List ℕ) → (((a ++ b) ++ c) ++ d) ++ r ≡ a ++ (b ++ (c ++ (d ++ r)))
regroup_4 a b c d r = simp append_assoc

pub regroup_5 :
    (a b c d e r : List ℕ) →
    ((((a ++ b) ++ c) ++ d) ++ e) ++ r ≡ a ++ (b ++ (c ++ (d ++ (e ++ r))))
regroup_5 a b c d e r = simp append_assoc

pub regroup_6 :
    (a b c d e f r : List ℕ) →
    (((((a ++ b) ++ c) ++ d) ++ e) ++ f) ++ r ≡ a ++ (b ++ (c ++ (d ++ (e ++ (f ++ r)))))
regroup_6 a b c d e f r = simp append_assoc

pub regroup_7 :
    (a b c d e f g r : List ℕ) →
    ((((((a ++ b) ++ c) ++ d) ++ e) ++ f) ++ g) ++ r
    ≡ a ++ (b ++ (c ++ (d ++ (e ++ (f ++ (g ++ r))))))
regroup_7 a b c d e f g r = simp append_assoc

pub regroup_11 :
    (a b c d e f g h i j k r : List ℕ) →
    ((((((((((a ++ b) ++ c) ++ d) ++ e) ++ f) ++ g) ++ h) ++ i) ++ j) ++ k) ++ r
    ≡ a ++ (b ++ (c ++ (d ++ (e ++ (f ++ (g ++ (h ++ (i ++ (j ++ (k ++ r))))))))))
regroup_11 a b c d e f g h i j k r = simp append_assoc
