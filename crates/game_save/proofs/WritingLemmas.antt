-- The bytes of what is written one after the other.
use Rattle.std.proofs.Common.{◌≡◌, ℕ, zero, suc, ◌+◌, ◌≤◌, Bool, List, [], ◌∷◌, ◌++◌, length, drop, refl}
use Rattle.std.proofs.Common.{ap₂, arith, add-one, append_assoc, ap, subst, sym, take, take_all, ◌∙◌}
use Rattle.std.specs.Prelude.{◌<◌, Some, None, slice_get, slice_index_or, get_or}
use Rattle.std.specs.List.{All, zip, flat_map}
use Rattle.std.proofs.lemmas.List.{append-nil}
use Rattle.std.proofs.lemmas.List.Elements.{All-more}
use Rattle.wire_bytes.specs.Field.{field_bytes}
use Rattle.sync_hash.specs.HashedBytes.{client_bytes, flag_byte}

-- A client and those after it.
split_client :
    (c : ℕ) (cash : List ℕ) (gone : List Bool) (amount : ℕ) (flag : Bool) →
    slice_get cash c ≡ Some amount → slice_get gone c ≡ Some flag →
    flat_map client_bytes (drop c (zip cash gone))
    ≡ client_bytes (amount, flag) ++ flat_map client_bytes (drop (suc c) (zip cash gone))
split_client c [] gone amount flag at is = absurd cc
split_client c (x ∷ xs) [] amount flag at is = absurd cc
split_client zero (x ∷ xs) (g ∷ gs) amount flag at is =
    let same_amount : x ≡ amount = cc in
    let same_flag : g ≡ flag = cc in
    ap₂ (λ (a : ℕ) (f : Bool). client_bytes (a, f) ++ flat_map client_bytes (zip xs gs))
    same_amount same_flag
split_client (suc c) (x ∷ xs) (g ∷ gs) amount flag at is = split_client c xs gs amount flag at is

-- What is written and the bytes of the clients that are left, before and after one more.
pub client_written :
    (out : List ℕ) (c : ℕ) (cash : List ℕ) (gone : List Bool) (amount : ℕ) (flag : Bool) →
    slice_get cash c ≡ Some amount → slice_get gone c ≡ Some flag →
    ((out ++ field_bytes 4 amount) ++ flag_byte flag ∷ [])
    ++ flat_map client_bytes (drop (c + 1) (zip cash gone))
    ≡ out ++ flat_map client_bytes (drop c (zip cash gone))
client_written out c cash gone amount flag at is =
    rw (add-one, split_client c cash gone amount flag at is) (simp append_assoc refl)

-- After the last client no bytes are left.
pub clients_written :
    (out : List ℕ) (c : ℕ) (cash : List ℕ) (gone : List Bool) → length cash ≤ c →
    out ++ flat_map client_bytes (drop c (zip cash gone)) ≡ out
clients_written out c cash gone all =
    ap (λ (rest : List ℕ). out ++ rest) (none_left c cash gone all) ∙ append-nil out
  where
    none_left :
        (d : ℕ) (xs : List ℕ) (gs : List Bool) → length xs ≤ d →
        flat_map client_bytes (drop d (zip xs gs)) ≡ []
    none_left zero [] gs past = refl
    none_left (suc d) [] gs past = refl
    none_left zero (x ∷ xs) [] past = refl
    none_left (suc d) (x ∷ xs) [] past = refl
    none_left zero (x ∷ xs) (g ∷ gs) past = absurd (omega arith)
    none_left (suc d) (x ∷ xs) (g ∷ gs) past = none_left d xs gs (omega arith)

-- ---- Items of a list, by their places

drop_further :
    {X : Type 0} (x : X) (items : List X) (i : ℕ) →
    drop (i + 1) items ≡ drop (suc i + 1) (x ∷ items)
drop_further {X = X} x items i =
    ap (λ (k : ℕ). drop k items) (add-one i)
    ∙ sym (ap (λ (k : ℕ). drop k (x ∷ items)) (add-one (suc i)))

-- The items from a place on, of which this is the first.
item_here :
    {X : Type 0} (items : List X) (i : ℕ) (item : X) → slice_get items i ≡ Some item →
    drop i items ≡ item ∷ drop (i + 1) items
item_here {X = X} [] i item here = absurd cc
item_here {X = X} (x ∷ items) zero item here = ap (λ (y : X). y ∷ items) cc
item_here {X = X} (x ∷ items) (suc i) item here =
    item_here items i item here
    ∙ ap (λ (left : List X). item ∷ left) (drop_further x items i)

item_at :
    {X : Type 0} (items : List X) (i : ℕ) (default : X) → i < length items →
    drop i items ≡ slice_index_or items i default ∷ drop (i + 1) items
item_at {X = X} [] i default within = absurd (omega (arith, within))
item_at {X = X} (x ∷ items) zero default within = refl
item_at {X = X} (x ∷ items) (suc i) default within =
    item_at items i default (omega (arith, within))
    ∙ ap (λ (left : List X). slice_index_or items i default ∷ left) (drop_further x items i)

-- What is written and the bytes of those that are left, after one more.
pub item_written :
    {X : Type 0} (bytes_of : X → List ℕ) (whole out now : List ℕ) (items : List X) (i : ℕ)
    (item : X) → slice_get items i ≡ Some item →
    out ++ flat_map bytes_of (drop i items) ≡ whole → now ≡ out ++ bytes_of item →
    now ++ flat_map bytes_of (drop (i + 1) items) ≡ whole
item_written {X = X} bytes_of whole out now items i item here before after =
    ap (λ (t : List ℕ). t ++ flat_map bytes_of (drop (i + 1) items)) after
    ∙ append_assoc out (bytes_of item) (flat_map bytes_of (drop (i + 1) items))
    ∙ ap (λ (l : List X). out ++ flat_map bytes_of l) (sym (item_here items i item here))
    ∙ before

-- The same of the item at a place that is there.
pub place_written :
    {X : Type 0} (bytes_of : X → List ℕ) (whole out now : List ℕ) (items : List X) (i : ℕ)
    (default : X) → i < length items → out ++ flat_map bytes_of (drop i items) ≡ whole →
    now ≡ out ++ bytes_of (slice_index_or items i default) →
    now ++ flat_map bytes_of (drop (i + 1) items) ≡ whole
place_written {X = X} bytes_of whole out now items i default within before after =
    let item : X = slice_index_or items i default in
    ap (λ (t : List ℕ). t ++ flat_map bytes_of (drop (i + 1) items)) after
    ∙ append_assoc out (bytes_of item) (flat_map bytes_of (drop (i + 1) items))
    ∙ ap (λ (l : List X). out ++ flat_map bytes_of l) (sym (item_at items i default within))
    ∙ before

-- There is an item below the length.
pub is_there :
    {X : Type 0} (items : List X) (i : ℕ) → i < length items → slice_get items i ≡ None → ⊥
is_there [] i within none = absurd (omega (arith, within))
is_there (x ∷ items) zero within none = absurd cc
is_there (x ∷ items) (suc i) within none = is_there items i (omega (arith, within)) none

-- Past the end no bytes are left.
pub all_written :
    {X : Type 0} (bytes_of : X → List ℕ) (whole out : List ℕ) (items : List X) (i : ℕ) →
    length items ≤ i → out ++ flat_map bytes_of (drop i items) ≡ whole → out ≡ whole
all_written {X = X} bytes_of whole out items i past before =
    sym (append-nil out)
    ∙ ap (λ (l : List X). out ++ flat_map bytes_of l) (sym (none_left items i past))
    ∙ before
  where
    none_left : (xs : List X) (d : ℕ) → length xs ≤ d → drop d xs ≡ []
    none_left [] zero past = refl
    none_left [] (suc d) past = refl
    none_left (x ∷ xs) zero past = absurd (omega arith)
    none_left (x ∷ xs) (suc d) past = none_left xs d (omega arith)

-- Of all so far something holds, and so it does with one more.
pub item_holds :
    {X : Type 0} (P : X → Type 0) (items : List X) (i : ℕ) (item : X) →
    slice_get items i ≡ Some item → All P (take i items) → P item → All P (take (i + 1) items)
item_holds {X = X} P items i item here before holds =
    All-more P items i item (within items i here) before
    (subst P (sym (is_it items i here)) holds)
  where
    within : (xs : List X) (k : ℕ) → slice_get xs k ≡ Some item → k < length xs
    within [] k here = absurd cc
    within (x ∷ xs) zero here = omega arith
    within (x ∷ xs) (suc k) here = omega (arith, within xs k here)

    is_it : (xs : List X) (k : ℕ) → slice_get xs k ≡ Some item → get_or xs k item ≡ item
    is_it [] k here = absurd cc
    is_it (x ∷ xs) zero here = cc
    is_it (x ∷ xs) (suc k) here = is_it xs k here

-- Past the end it holds of all.
pub all_hold :
    {X : Type 0} (P : X → Type 0) (items : List X) (i : ℕ) → length items ≤ i →
    All P (take i items) → All P items
all_hold {X = X} P items i past so_far = subst (All P) (take_all i items past) so_far
