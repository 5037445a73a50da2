-- Lists by their numbers, and the numbers that arrived.
use Rattle.std.proofs.Common.{◌≡◌, ℕ, zero, suc, ◌+◌, ◌<◌, ◌≤◌, true, false, cond, List, []}
use Rattle.std.proofs.Common.{◌∷◌, ◌++◌, length, drop, Some, None, refl, sym, ap, subst}
use Rattle.std.proofs.Common.{◌∙◌, ⊎_elim, arith, ◌||◌}
use Rattle.std.specs.Prelude.{slice_get, slice_index_or}
use Rattle.std.specs.List.{AllByRecursion}
use Rattle.std.proofs.lemmas.Bool.{cases_lt, cases_eq, cases_Bool, eq-eqb, ne_eqb}
use Rattle.std.proofs.lemmas.List.{drop_all}
use Rattle.std.proofs.lemmas.Option.{slice_get_within, none-some, same_Some, slice_get-get_or}
use Rattle.datagram_schedule.specs.Schedule.{has, missing_from}
use Rattle.datagram_schedule.specs.Follows.{InOrder, place_of}

-- ---- lists

pub get_append :
    {A : Type 0} (xs ys : List A) (i : ℕ) → i < length xs →
    slice_get (xs ++ ys) i ≡ slice_get xs i
get_append [] ys i within = absurd (omega arith)
get_append (x ∷ xs) ys zero within = refl
get_append (x ∷ xs) ys (suc i) within = get_append xs ys i (omega arith)

pub get_kept :
    {A : Type 0} (xs ys : List A) (i : ℕ) (x : A) → slice_get xs i ≡ Some x →
    slice_get (xs ++ ys) i ≡ Some x
get_kept xs ys i x at = get_append xs ys i (slice_get_within xs i x at) ∙ at

pub get_drop :
    {A : Type 0} (n i : ℕ) (xs : List A) → slice_get (drop n xs) i ≡ slice_get xs (n + i)
get_drop n i [] = ap (λ xs. slice_get xs i) (drop_all n [] (omega arith))
get_drop zero i (x ∷ xs) = let same : i ≡ 0 + i = omega arith in ap (slice_get (x ∷ xs)) same
get_drop (suc n) i (x ∷ xs) =
    let same : suc (n + i) ≡ suc n + i = omega arith in
    get_drop n i xs ∙ ap (slice_get (x ∷ xs)) same

-- What holds of each holds of the one with this number.
pub get_holds :
    {A : Type 0} (P : A → Type 0) (xs : List A) (i : ℕ) (x : A) → AllByRecursion P xs →
    slice_get xs i ≡ Some x → P x
get_holds P [] i x all at = absurd (none-some x at)
get_holds P (y ∷ ys) zero x all at = subst P (same_Some y x at) all.0
get_holds P (y ∷ ys) (suc i) x all at = get_holds P ys i x all.1 at

pub all_weaker :
    {A : Type 0} (P Q : A → Type 0) → ((x : A) → P x → Q x) → (xs : List A) →
    AllByRecursion P xs → AllByRecursion Q xs
all_weaker P Q weaker [] all = tt
all_weaker P Q weaker (x ∷ xs) all = (weaker x all.0, all_weaker P Q weaker xs all.1)

pub all_push :
    {A : Type 0} (P : A → Type 0) (xs : List A) (x : A) → AllByRecursion P xs → P x →
    AllByRecursion P (xs ++ x ∷ [])
all_push P [] x all here = (here, tt)
all_push P (y ∷ ys) x all here = (all.0, all_push P ys x all.1 here)

-- ---- the numbers that arrived

-- A number more.
pub has_first : (number : ℕ) (numbers : List ℕ) → has (number ∷ numbers) number ≡ true
has_first number numbers = ap (λ b. b || has numbers number) (eq-eqb number number refl)

pub has_later :
    (first number : ℕ) (numbers : List ℕ) → (first ≡ number → ⊥) →
    has (first ∷ numbers) number ≡ has numbers number
has_later first number numbers other =
    ap (λ b. b || has numbers number) (ne_eqb first number other)

pub has_still :
    (first number : ℕ) (numbers : List ℕ) → has numbers number ≡ true →
    has (first ∷ numbers) number ≡ true
has_still first number numbers there =
    ⊎_elim (λ (same : first ≡ number). ap (λ b. b || has numbers number) (eq-eqb first number same))
    (λ (other : first ≡ number → ⊥). has_later first number numbers other ∙ there)
    (cases_eq first number)

-- What came into order was offered.
pub order_within :
    (offered : List (List ℕ)) (arrived : List ℕ) (next : ℕ) → InOrder offered arrived next →
    next ≤ length offered
order_within offered arrived next order =
    ⊎_elim
    (λ (below : length offered < next).
    let most = order.known (length offered) (order.gapless (length offered) below) in
    absurd (omega arith))
    (λ (above : next ≤ length offered). above)
    (cases_lt (length offered) next)

-- The first number that is missing is the one after those in order.
pub missing_is :
    (arrived : List ℕ) (next n count : ℕ) →
    ((number : ℕ) → number < next → has arrived number ≡ true) → has arrived next ≡ false →
    n ≤ next → next ≤ n + count → missing_from arrived n count ≡ next
missing_is arrived next n zero gapless gap above below = omega arith
missing_is arrived next n (suc count) gapless gap above below =
    ⊎_elim
    (λ (same : n ≡ next).
    let none : has arrived n ≡ false = ap (has arrived) same ∙ gap in
    rw none same)
    (λ (other : n ≡ next → ⊥).
    let there : has arrived n ≡ true = gapless n (omega arith) in
    rw there (missing_is arrived next (n + 1) count gapless gap (omega arith) (omega arith)))
    (cases_eq n next)

pub order_is :
    (offered : List (List ℕ)) (arrived : List ℕ) (next : ℕ) → InOrder offered arrived next →
    missing_from arrived 0 (length offered) ≡ next
order_is offered arrived next order =
    let most = order_within offered arrived next order in
    missing_is arrived next 0 (length offered) order.gapless order.gap (omega arith) (omega arith)

-- ---- places

pub place_there :
    (offered : List (List ℕ)) (arrived : List ℕ) (number : ℕ) → has arrived number ≡ true →
    place_of offered arrived number ≡ slice_get offered number
place_there offered arrived number there =
    ap (λ b. cond b (slice_get offered number) None) there

pub place_empty :
    (offered : List (List ℕ)) (arrived : List ℕ) (number : ℕ) → has arrived number ≡ false →
    place_of offered arrived number ≡ None
place_empty offered arrived number none =
    ap (λ b. cond b (slice_get offered number) None) none

-- A place with a payload is that of a number that arrived, and has its payload.
pub place_some :
    (offered : List (List ℕ)) (arrived : List ℕ) (number : ℕ) (payload : List ℕ) →
    place_of offered arrived number ≡ Some payload →
    (has arrived number ≡ true) × (slice_get offered number ≡ Some payload)
place_some offered arrived number payload is =
    ⊎_elim
    (λ (there : has arrived number ≡ true).
    (there, sym (place_there offered arrived number there) ∙ is))
    (λ (none : has arrived number ≡ false).
    absurd (none-some payload (sym (place_empty offered arrived number none) ∙ is)))
    (cases_Bool (has arrived number))

-- An empty place of an offered number is that of one that did not arrive.
pub place_none :
    (offered : List (List ℕ)) (arrived : List ℕ) (number : ℕ) → number < length offered →
    place_of offered arrived number ≡ None → has arrived number ≡ false
place_none offered arrived number within is =
    ⊎_elim
    (λ (there : has arrived number ≡ true).
    absurd (none-some (slice_index_or offered number [])
    (sym is ∙ place_there offered arrived number there ∙ slice_get-get_or offered number [] within)))
    (λ (none : has arrived number ≡ false). none)
    (cases_Bool (has arrived number))

-- One offered payload more changes no place, since its number did not arrive.
pub place_offered :
    (offered : List (List ℕ)) (arrived : List ℕ) (payload : List ℕ) (number : ℕ) →
    (has arrived number ≡ true → number < length offered) →
    place_of (offered ++ payload ∷ []) arrived number ≡ place_of offered arrived number
place_offered offered arrived payload number known =
    ⊎_elim
    (λ (there : has arrived number ≡ true).
    place_there (offered ++ payload ∷ []) arrived number there
    ∙ get_append offered (payload ∷ []) number (known there)
    ∙ sym (place_there offered arrived number there))
    (λ (none : has arrived number ≡ false).
    place_empty (offered ++ payload ∷ []) arrived number none
    ∙ sym (place_empty offered arrived number none))
    (cases_Bool (has arrived number))
