-- The table of which kinds build which, and how it is made from the names of queues.
use Rattle.std.specs.Prelude.{◌≡◌, ℕ, ◌+◌, Bool, true, false, List, [], ◌∷◌, ◌++◌}
use Rattle.std.specs.Prelude.{◌-◌, ◌==◌, length, slice_get}
use Rattle.std.specs.Prelude.{slice_set, replicate, Option, Some, None, if◌then◌else◌}
use Rattle.std.specs.BTreeMap.{BTreeMap, get_by}
use Rattle.std.specs.Cmp.Lexicographic.{slice_cmp}
use Rattle.std.specs.Ordering.{nat_cmp}
use Rattle.std.specs.Str.{bytes_eq}
use denote.Ref.{Bor}
use Rattle.rule_traits.specs.declared.kind.Kind.{Kind}
use Rattle.rule_traits.specs.Rules.{builds, produces_of, queue_of}

-- The bit at an index of a row: false after its end.
abbrev pub bit_of : Option Bool → Bool
bit_of None = false
bit_of (Some bit) = bit

abbrev pub bit_at : List Bool → ℕ → Bool
bit_at row product = bit_of (slice_get row product)

abbrev pub bit_in : Option (List Bool) → ℕ → Bool
bit_in None product = false
bit_in (Some row) product = bit_at row product

-- What the table says of a builder and a product.
abbrev pub table_at : List (List Bool) → ℕ → ℕ → Bool
table_at rows builder product = bit_in (slice_get rows builder) product

-- The table says of each pair whether the one builds the other.
abbrev pub IsTableOf : List Kind → List (List Bool) → Type 0
IsTableOf rules rows =
    (builder product : ℕ) → table_at rows builder product ≡ builds rules builder product

-- The kinds that a map has for a name: those with this name among their queues.
abbrev pub users_or_none : Option (List ℕ) → List ℕ
users_or_none None = []
users_or_none (Some users) = users

abbrev pub users_in : BTreeMap (Bor (List ℕ)) (List ℕ) → List ℕ → List ℕ
users_in users name = users_or_none (get_by (λ key. slice_cmp nat_cmp name key.now) users)

-- The kind comes last among these.
abbrev pub is_number : ℕ → Option ℕ → Bool
is_number number None = false
is_number number (Some user) = user == number

abbrev pub ends_in : ℕ → List ℕ → Bool
ends_in number users = is_number number (slice_get users (length users - 1))

-- A kind added last, unless it comes last already.
abbrev pub with_user : ℕ → List ℕ → List ℕ
with_user number users = if ends_in number users then users else users ++ number ∷ []

-- The kinds of a name with a kind that has this queue, and with one that has these queues.
abbrev pub with_queue : ℕ → (queue name : List ℕ) → List ℕ → List ℕ
with_queue number queue name users = if bytes_eq queue name then with_user number users else users

abbrev pub with_queues : ℕ → List (List ℕ) → (name : List ℕ) → List ℕ → List ℕ
with_queues number [] name users = users
with_queues number (queue ∷ rest) name users =
    with_queues number rest name (with_queue number queue name users)

-- The same with all kinds of a list, numbered from `number` on.
abbrev pub with_kinds : ℕ → List Kind → (name : List ℕ) → List ℕ → List ℕ
with_kinds number [] name users = users
with_kinds number (kind ∷ rest) name users =
    with_kinds (number + 1) rest name (with_queues number (queue_of kind) name users)

-- A row with the bits of these kinds set.
abbrev pub marked : List Bool → List ℕ → List Bool
marked row [] = row
marked row (user ∷ users) = marked (slice_set row user true) users

-- A row with the bits of the kinds of each of these names set.
abbrev pub marked_by : (List ℕ → List ℕ) → List Bool → List (List ℕ) → List Bool
marked_by users row [] = row
marked_by users row (name ∷ names) = marked_by users (marked row (users name)) names

-- Only a kind that produces has bits.
abbrev pub width_of : List (List ℕ) → ℕ → ℕ
width_of [] kinds = 0
width_of (name ∷ names) kinds = kinds

abbrev pub row_of : (List ℕ → List ℕ) → ℕ → Kind → List Bool
row_of users kinds kind =
    marked_by users (replicate (width_of (produces_of kind) kinds) false) (produces_of kind)
