-- Lists by their places, and going over them.
use Rattle.std.specs.Prelude.{◌≡◌, ℕ, zero, suc, ◌+◌, ◌<◌, ◌≤◌, List, [], ◌∷◌, length, drop}
use Rattle.std.specs.Prelude.{Some, None, slice_get, slice_index_or}
use Rattle.std.proofs.Common.{refl, sym, ap, ◌∙◌, arith, add-one}

drop_further :
    {X : Type 0} (x : X) (items : List X) (i : ℕ) →
    drop (i + 1) items ≡ drop (suc i + 1) (x ∷ items)
drop_further {X = X} x items i =
    ap (λ (k : ℕ). drop k items) (add-one i)
    ∙ sym (ap (λ (k : ℕ). drop k (x ∷ items)) (add-one (suc i)))

-- What is left from an item on.
pub item_here :
    {X : Type 0} (items : List X) (i : ℕ) (item : X) → slice_get items i ≡ Some item →
    drop i items ≡ item ∷ drop (i + 1) items
item_here {X = X} [] i item here = absurd cc
item_here {X = X} (x ∷ items) zero item here = ap (λ (y : X). y ∷ items) cc
item_here {X = X} (x ∷ items) (suc i) item here =
    item_here items i item here
    ∙ ap (λ (left : List X). item ∷ left) (drop_further x items i)

pub item_at :
    {X : Type 0} (items : List X) (i : ℕ) (default : X) → i < length items →
    drop i items ≡ slice_index_or items i default ∷ drop (i + 1) items
item_at {X = X} [] i default within = absurd (omega (arith, within))
item_at {X = X} (x ∷ items) zero default within = refl
item_at {X = X} (x ∷ items) (suc i) default within =
    item_at items i default (omega (arith, within))
    ∙ ap (λ (left : List X). slice_index_or items i default ∷ left) (drop_further x items i)

pub got_at :
    {X : Type 0} (items : List X) (i : ℕ) (default : X) → i < length items →
    slice_get items i ≡ Some (slice_index_or items i default)
got_at {X = X} [] i default within = absurd (omega (arith, within))
got_at {X = X} (x ∷ items) zero default within = refl
got_at {X = X} (x ∷ items) (suc i) default within = got_at items i default (omega (arith, within))

-- Nothing is left past the end.
pub none_left : {X : Type 0} (items : List X) (i : ℕ) → length items ≤ i → drop i items ≡ []
none_left [] zero past = refl
none_left [] (suc i) past = refl
none_left (x ∷ items) zero past = absurd (omega (arith, past))
none_left (x ∷ items) (suc i) past = none_left items i (omega (arith, past))

pub none_here :
    {X : Type 0} (items : List X) (i : ℕ) → slice_get items i ≡ None → drop i items ≡ []
none_here [] zero none = refl
none_here [] (suc i) none = refl
none_here (x ∷ items) zero none = absurd cc
none_here (x ∷ items) (suc i) none = none_here items i none

pub first_left :
    {X : Type 0} (items : List X) (i : ℕ) → slice_get (drop i items) 0 ≡ slice_get items i
first_left [] zero = refl
first_left [] (suc i) = refl
first_left (x ∷ items) zero = refl
first_left (x ∷ items) (suc i) = first_left items i

drop_none : {X : Type 0} (n : ℕ) (items : List X) → items ≡ [] → drop n items ≡ []
drop_none zero items none = none
drop_none {X = X} (suc n) items none = ap (λ (left : List X). drop (suc n) left) none

pub drop_on :
    {X : Type 0} (items : List X) (i n : ℕ) → drop n (drop i items) ≡ drop (i + n) items
drop_on {X = X} items zero n = ap (λ (k : ℕ). drop k items) (omega arith)
drop_on {X = X} [] (suc i) n = drop_none n [] refl ∙ sym (drop_none (suc i + n) [] refl)
drop_on {X = X} (x ∷ items) (suc i) n =
    let more : suc i + n ≡ suc (i + n) = omega arith in
    drop_on items i n ∙ sym (ap (λ (k : ℕ). drop k (x ∷ items)) more)
