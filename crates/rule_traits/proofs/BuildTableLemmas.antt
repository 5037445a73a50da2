-- The table of builds says of each pair what its names say.
use Rattle.std.proofs.Common.{◌≡◌, ℕ, ◌+◌, ◌-◌, ◌<◌, ◌≤◌, ◌==◌, Bool, true, false, cond}
use Rattle.std.proofs.Common.{◌&&◌, ◌||◌}
use Rattle.std.proofs.Common.{List, [], ◌∷◌, ◌++◌, length, map, drop, get_or, refl, sym, ◌∙◌, ap}
use Rattle.std.proofs.Common.{ap₂, arith}
use Rattle.std.proofs.Common.{replicate, set, suc, take, zero, Option, Some}
use Rattle.std.proofs.Common.{None}
use Rattle.std.proofs.lemmas.Bool.Decides.{nat_tests}
use Rattle.std.proofs.lemmas.Slice.Eq.{bytes_eq-Decides}
use Rattle.std.proofs.lemmas.List.{drop_more, get_or-set_same, get_or-set_other, length-set}
use Rattle.std.proofs.lemmas.List.{get_or-replicate, length-replicate}
use Rattle.std.proofs.lemmas.List.Folds.{list_any-append}
use Rattle.std.proofs.lemmas.Option.{slice_get-map, slice_get_past, slice_get_within}
use Rattle.std.specs.List.{list_any, slice_get}
use Rattle.std.specs.Option.{option_map}
use Rattle.std.specs.Str.{bytes_eq}
use Rattle.rule_traits.specs.declared.kind.Kind.{Kind}
use Rattle.rule_traits.specs.BuildTable.{bit_of, bit_at, bit_in, table_at, users_or_none, is_number}
use Rattle.rule_traits.specs.BuildTable.{ends_in, with_user, with_queue, with_queues, with_kinds}
use Rattle.rule_traits.specs.BuildTable.{marked, marked_by, width_of, row_of, IsTableOf}
use Rattle.rule_traits.specs.Rules.{builds_between, can_build, kind_at}
use Rattle.rule_traits.specs.Rules.{produces_of, queue_of}

-- Where a name was taken out of the map, it has no kinds left.
pub users_taken :
    (test : Bool) (held : Option (List ℕ)) →
    users_or_none (cond test None held) ≡ cond test [] (users_or_none held)
users_taken true held = refl
users_taken false held = refl

-- A kind that is added to those of a name.
pub user_added :
    (before : List ℕ → List ℕ) (queue name : List ℕ) (number : ℕ) (left : Option (List ℕ)) (added : List ℕ) (test : Bool) →
    bytes_eq queue name ≡ test → added ≡ with_user number (before queue) →
    users_or_none left ≡ cond (bytes_eq queue name) [] (before name) →
    users_or_none (cond test (Some added) left) ≡ cond test (with_user number (before name)) (before name)
user_added before queue name number left added true e a l =
    a ∙ ap (λ q. with_user number (before q)) ((bytes_eq-Decides queue name).0 e)
user_added before queue name number left added false e a l = l ∙ ap (λ t. cond t [] (before name)) e

-- The queues of a kind, one after the other.
pub queue_next :
    (number : ℕ) (queues : List (List ℕ)) (at : ℕ) (queue name : List ℕ) (old now next : List ℕ) → at < length queues →
    queue ≡ get_or queues at queue → next ≡ with_queue number queue name now →
    with_queues number (drop at queues) name now ≡ old →
    with_queues number (drop (at + 1) queues) name next ≡ old
queue_next number queues at queue name old now next h q n e =
    let rest = λ (users : List ℕ). with_queues number (drop (at + 1) queues) name users in
    ap rest n
    ∙ ap (λ x. rest (with_queue number x name now)) q
    ∙ ap (λ l. with_queues number l name now) (sym (drop_more queues at queue h))
    ∙ e

pub users_next :
    (kinds : List Kind) (at : ℕ) (kind : Kind) (name : List ℕ) (all now next : List ℕ) → at < length kinds →
    kind ≡ get_or kinds at kind → next ≡ with_queues at (queue_of kind) name now →
    with_kinds at (drop at kinds) name now ≡ all →
    with_kinds (at + 1) (drop (at + 1) kinds) name next ≡ all
users_next kinds at kind name all now next h k n e =
    let rest = λ (users : List ℕ). with_kinds (at + 1) (drop (at + 1) kinds) name users in
    ap rest n
    ∙ ap (λ x. rest (with_queues at (queue_of x) name now)) k
    ∙ ap (λ l. with_kinds at l name now) (sym (drop_more kinds at kind h))
    ∙ e

-- Small laws of tests.
or_false : (a : Bool) → a ≡ (a || false)
or_false true = refl
or_false false = refl

or_true : (a : Bool) → true ≡ (a || true)
or_true true = refl
or_true false = refl

or_assoc : (a b c : Bool) → ((a || b) || c) ≡ (a || (b || c))
or_assoc true b c = refl
or_assoc false b c = refl

any_same :
    {X : Type 0} (f g : X → Bool) (xs : List X) → ((x : X) → f x ≡ g x) → list_any f xs ≡ list_any g xs
any_same f g [] same = refl
any_same f g (x ∷ xs) same = ap₂ (λ a b. a || b) (same x) (any_same f g xs same)

four_or : (a b c d : Bool) → ((a || b) || (c || d)) ≡ ((a || c) || (b || d))
four_or true b c d = refl
four_or false true true d = refl
four_or false true false d = refl
four_or false false c d = refl

any_or :
    {X : Type 0} (f g : X → Bool) (xs : List X) →
    list_any (λ x. f x || g x) xs ≡ (list_any f xs || list_any g xs)
any_or f g [] = refl
any_or f g (x ∷ xs) =
    ap (λ b. (f x || g x) || b) (any_or f g xs) ∙ four_or (f x) (g x) (list_any f xs) (list_any g xs)

any_never : {X : Type 0} (xs : List X) → list_any (λ x. false) xs ≡ false
any_never [] = refl
any_never (x ∷ xs) = any_never xs

-- Which list is gone through first makes no difference.
exchange :
    {X Y : Type 0} (test : Y → X → Bool) (xs : List X) (ys : List Y) →
    list_any (λ x. list_any (λ y. test y x) ys) xs ≡ list_any (λ y. list_any (test y) xs) ys
exchange test xs [] = any_never xs
exchange test xs (y ∷ ys) =
    any_or (test y) (λ x. list_any (λ y. test y x) ys) xs
    ∙ ap (λ b. list_any (test y) xs || b) (exchange test xs ys)

-- The bits of a row. A bit that the row hasn't can't be set.
pub set_past : (row : List Bool) (at : ℕ) → length row ≤ at → row ≡ set row at true
set_past [] at h = refl
set_past (bit ∷ row) zero h = absurd (omega arith)
set_past (bit ∷ row) (suc at) h = ap (λ r. bit ∷ r) (set_past row at (omega arith))

set_step :
    (row : List Bool) (user product : ℕ) (same : Bool) → product < length row → (user == product) ≡ same →
    get_or (set row user true) product false ≡ (get_or row product false || same)
set_step row user product true h e =
    let is : user ≡ product = grind (arith, nat_tests) in
    ap (λ i. get_or (set row user true) i false) (sym is)
    ∙ get_or-set_same row user true false (let below : user < length row = omega arith in below)
    ∙ or_true (get_or row product false)
set_step row user product false h e =
    get_or-set_other row user product true false (λ is. let other : ⊥ = grind (arith, nat_tests) in other)
    ∙ or_false (get_or row product false)

marked_length : (row : List Bool) (users : List ℕ) → length (marked row users) ≡ length row
marked_length row [] = refl
marked_length row (user ∷ users) = marked_length (set row user true) users ∙ length-set row user true

marked_bit :
    (row : List Bool) (users : List ℕ) (product : ℕ) → product < length row →
    get_or (marked row users) product false ≡ (get_or row product false || list_any (λ u. u == product) users)
marked_bit row [] product h = or_false (get_or row product false)
marked_bit row (user ∷ users) product h =
    let long : length (set row user true) ≡ length row = length-set row user true in
    marked_bit (set row user true) users product (omega arith)
    ∙ ap (λ b. b || list_any (λ u. u == product) users) (set_step row user product (user == product) h refl)
    ∙ or_assoc (get_or row product false) (user == product) (list_any (λ u. u == product) users)

marked_by_length :
    (users : List ℕ → List ℕ) (row : List Bool) (names : List (List ℕ)) →
    length (marked_by users row names) ≡ length row
marked_by_length users row [] = refl
marked_by_length users row (name ∷ names) =
    marked_by_length users (marked row (users name)) names ∙ marked_length row (users name)

marked_by_bit :
    (users : List ℕ → List ℕ) (row : List Bool) (names : List (List ℕ)) (product : ℕ) → product < length row →
    get_or (marked_by users row names) product false
    ≡ (get_or row product false || list_any (λ name. list_any (λ u. u == product) (users name)) names)
marked_by_bit users row [] product h = or_false (get_or row product false)
marked_by_bit users row (name ∷ names) product h =
    let long : length (marked row (users name)) ≡ length row = marked_length row (users name) in
    let later = list_any (λ name. list_any (λ u. u == product) (users name)) names in
    marked_by_bit users (marked row (users name)) names product (omega arith)
    ∙ ap (λ b. b || later) (marked_bit row (users name) product h)
    ∙ or_assoc (get_or row product false) (list_any (λ u. u == product) (users name)) later

names_bit :
    (users : List ℕ → List ℕ) (kinds : ℕ) (names : List (List ℕ)) (product : ℕ) → product < kinds →
    get_or (marked_by users (replicate (width_of names kinds) false) names) product false
    ≡ list_any (λ name. list_any (λ u. u == product) (users name)) names
names_bit users kinds [] product h = refl
names_bit users kinds (name ∷ names) product h =
    let long : length (replicate kinds false) ≡ kinds = length-replicate kinds false in
    marked_by_bit users (replicate kinds false) (name ∷ names) product (omega arith)
    ∙ ap (λ b. b || list_any (λ name. list_any (λ u. u == product) (users name)) (name ∷ names))
    (get_or-replicate kinds product false false h)

width_fits : (names : List (List ℕ)) (kinds : ℕ) → width_of names kinds ≤ kinds
width_fits [] kinds = omega arith
width_fits (name ∷ names) kinds = omega arith

row_length :
    (users : List ℕ → List ℕ) (kinds : ℕ) (kind : Kind) → length (row_of users kinds kind) ≤ kinds
row_length users kinds kind =
    let long = marked_by_length users (replicate (width_of (produces_of kind) kinds) false) (produces_of kind) in
    let wide = length-replicate (width_of (produces_of kind) kinds) false in
    let fits = width_fits (produces_of kind) kinds in
    omega arith

-- The kinds of a name.
and_false : (a : Bool) → false ≡ (a && false)
and_false true = refl
and_false false = refl

or_and : (a s : Bool) → a ≡ (a || (s && false))
or_and a s = or_false a ∙ ap (λ b. a || b) (and_false s)

or_both : (a s t l : Bool) → ((a || (s && t)) || (s && l)) ≡ (a || (s && (t || l)))
or_both true s t l = refl
or_both false true t l = refl
or_both false false t l = refl

got_any : (users : List ℕ) (at number : ℕ) → is_number number (slice_get users at) ≡ true → list_any (λ u. u == number) users ≡ true
got_any [] at number h = absurd (cc)
got_any (user ∷ users) zero number h = ap (λ b. b || list_any (λ u. u == number) users) h
got_any (user ∷ users) (suc at) number h = ap (λ b. (user == number) || b) (got_any users at number h) ∙ sym (or_true (user == number))

user_any :
    (number product : ℕ) (users : List ℕ) (ends same : Bool) → ends_in number users ≡ ends → (number == product) ≡ same →
    list_any (λ u. u == product) (cond ends users (users ++ number ∷ [])) ≡ (list_any (λ u. u == product) users || same)
user_any number product users true true e s =
    let is : number ≡ product = grind (arith, nat_tests) in
    ap (λ p. list_any (λ u. u == p) users) (sym is)
    ∙ got_any users (length users - 1) number e
    ∙ or_true (list_any (λ u. u == product) users)
user_any number product users true false e s = or_false (list_any (λ u. u == product) users)
user_any number product users false same e s =
    list_any-append (λ u. u == product) users (number ∷ [])
    ∙ ap (λ b. list_any (λ u. u == product) users || (b || false)) s
    ∙ ap (λ b. list_any (λ u. u == product) users || b) (sym (or_false same))

queue_any :
    (number product : ℕ) (users : List ℕ) (same test : Bool) → (number == product) ≡ same →
    list_any (λ u. u == product) (cond test (with_user number users) users) ≡ (list_any (λ u. u == product) users || (same && test))
queue_any number product users true true s = user_any number product users (ends_in number users) true refl s
queue_any number product users false true s = user_any number product users (ends_in number users) false refl s
queue_any number product users same false s = or_and (list_any (λ u. u == product) users) same

any_queues :
    (number product : ℕ) (queues : List (List ℕ)) (name users : List ℕ) →
    list_any (λ u. u == product) (with_queues number queues name users)
    ≡ (list_any (λ u. u == product) users || ((number == product) && list_any (λ queue. bytes_eq queue name) queues))
any_queues number product [] name users = or_and (list_any (λ u. u == product) users) (number == product)
any_queues number product (queue ∷ queues) name users =
    let later = (number == product) && list_any (λ queue. bytes_eq queue name) queues in
    any_queues number product queues name (with_queue number queue name users)
    ∙ ap (λ b. b || later) (queue_any number product users (number == product) (bytes_eq queue name) refl)
    ∙ or_both (list_any (λ u. u == product) users) (number == product) (bytes_eq queue name) (list_any (λ queue. bytes_eq queue name) queues)

none_before :
    (number product : ℕ) (kinds : List Kind) (name users : List ℕ) → product < number →
    list_any (λ u. u == product) (with_kinds number kinds name users) ≡ list_any (λ u. u == product) users
none_before number product [] name users h = refl
none_before number product (kind ∷ rest) name users h =
    let other : (number == product) ≡ false = grind (arith, nat_tests) in
    none_before (number + 1) product rest name (with_queues number (queue_of kind) name users) (omega arith)
    ∙ any_queues number product (queue_of kind) name users
    ∙ ap (λ b. list_any (λ u. u == product) users || (b && list_any (λ queue. bytes_eq queue name) (queue_of kind))) other
    ∙ sym (or_false (list_any (λ u. u == product) users))

abbrev has_queue : Option Kind → List ℕ → Bool
has_queue None name = false
has_queue (Some kind) name = list_any (λ queue. bytes_eq queue name) (queue_of kind)

any_users :
    (number at product : ℕ) (kinds : List Kind) (name users : List ℕ) → product ≡ number + at →
    list_any (λ u. u == product) (with_kinds number kinds name users) ≡ (list_any (λ u. u == product) users || has_queue (slice_get kinds at) name)
any_users number at product [] name users e = or_false (list_any (λ u. u == product) users)
any_users number zero product (kind ∷ rest) name users e =
    let here : (number == product) ≡ true = grind (arith, nat_tests) in
    none_before (number + 1) product rest name (with_queues number (queue_of kind) name users) (omega arith)
    ∙ any_queues number product (queue_of kind) name users
    ∙ ap (λ b. list_any (λ u. u == product) users || (b && list_any (λ queue. bytes_eq queue name) (queue_of kind))) here
any_users number (suc at) product (kind ∷ rest) name users e =
    let other : (number == product) ≡ false = grind (arith, nat_tests) in
    let found = has_queue (slice_get rest at) name in
    any_users (number + 1) at product rest name (with_queues number (queue_of kind) name users) (omega arith)
    ∙ ap (λ b. b || found) (any_queues number product (queue_of kind) name users)
    ∙ ap (λ b. (list_any (λ u. u == product) users || (b && list_any (λ queue. bytes_eq queue name) (queue_of kind))) || found) other
    ∙ ap (λ b. b || found) (sym (or_false (list_any (λ u. u == product) users)))

any_user :
    (product : ℕ) (kinds : List Kind) (name : List ℕ) →
    list_any (λ u. u == product) (with_kinds 0 kinds name []) ≡ has_queue (slice_get kinds product) name
any_user product kinds name = any_users 0 product product kinds name [] (omega arith)

-- The bit of a pair.
bit_is : (row : List Bool) (at : ℕ) → bit_at row at ≡ get_or row at false
bit_is [] at = refl
bit_is (bit ∷ row) zero = refl
bit_is (bit ∷ row) (suc at) = bit_is row at

bit_past : (row : List Bool) (at : ℕ) → length row ≤ at → bit_at row at ≡ false
bit_past row at h = ap bit_of (slice_get_past row at h)

none_is_past : {X : Type 0} (xs : List X) (at : ℕ) → slice_get xs at ≡ None → length xs ≤ at
none_is_past [] at e = omega arith
none_is_past (x ∷ xs) zero e = absurd (cc)
none_is_past (x ∷ xs) (suc at) e = let later = none_is_past xs at e in omega arith

pair_right :
    (rules : List Kind) (users : List ℕ → List ℕ) → ((name : List ℕ) → users name ≡ with_kinds 0 rules name []) →
    (builder : Kind) (at : ℕ) (product : Option Kind) → slice_get rules at ≡ product →
    bit_at (row_of users (length rules) builder) at ≡ builds_between (Some builder) product
unfolding can_build
pair_right rules users are builder at None e =
    let short = row_length users (length rules) builder in
    let past = none_is_past rules at e in
    bit_past (row_of users (length rules) builder) at (omega arith)
pair_right rules users are builder at (Some product) e =
    let names = produces_of builder in
    let in_queue : List ℕ → List ℕ → Bool = λ queue name. bytes_eq queue name in
    bit_is (row_of users (length rules) builder) at
    ∙ names_bit users (length rules) names at (slice_get_within rules at product e)
    ∙ any_same (λ name. list_any (λ u. u == at) (users name))
    (λ name. list_any (λ queue. in_queue queue name) (queue_of product)) names
    (λ name. ap (list_any (λ u. u == at)) (are name) ∙ any_user at rules name ∙ ap (λ kind. has_queue kind name) e)
    ∙ exchange in_queue names (queue_of product)

table_step :
    (rules : List Kind) (users : List ℕ → List ℕ) → ((name : List ℕ) → users name ≡ with_kinds 0 rules name []) →
    (builder : Option Kind) (at : ℕ) →
    bit_in (option_map (row_of users (length rules)) builder) at ≡ builds_between builder (kind_at rules at)
table_step rules users are None at = refl
table_step rules users are (Some builder) at = pair_right rules users are builder at (slice_get rules at) refl

-- The rows of all kinds are the table.
pub rows_are_table :
    (rules : List Kind) (users : List ℕ → List ℕ) (rows : List (List Bool)) →
    ((name : List ℕ) → users name ≡ with_kinds 0 rules name []) → rows ≡ map (row_of users (length rules)) rules →
    IsTableOf rules rows
rows_are_table rules users rows are is builder product =
    ap (λ rows. table_at rows builder product) is
    ∙ ap (λ row. bit_in row product) (slice_get-map (row_of users (length rules)) rules builder)
    ∙ table_step rules users are (kind_at rules builder) product

take_past : {X : Type 0} (xs : List X) (at : ℕ) → length xs ≤ at → take at xs ≡ xs
take_past [] zero h = refl
take_past [] (suc at) h = refl
take_past (x ∷ xs) zero h = absurd (omega arith)
take_past (x ∷ xs) (suc at) h = ap (λ l. x ∷ l) (take_past xs at (omega arith))

-- The same where the loop over the kinds has ended.
pub rows_done :
    (rules : List Kind) (users : List ℕ → List ℕ) (rows : List (List Bool)) (at : ℕ) → length rules ≤ at →
    ((name : List ℕ) → users name ≡ with_kinds 0 rules name []) →
    rows ≡ map (row_of users (length rules)) (take at rules) → IsTableOf rules rows
rows_done rules users rows at past are is =
    rows_are_table rules users rows are (is ∙ ap (map (row_of users (length rules))) (take_past rules at past))
