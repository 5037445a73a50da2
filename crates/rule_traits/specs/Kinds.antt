-- The kinds among the top-level nodes, and their numbers.
use Rattle.std.specs.Prelude.{ℕ, ◌+◌, Bool, true, not, List, [], ◌∷◌, ◌++◌, if◌then◌else◌, ◌==◌}
use Rattle.std.specs.Prelude.{nat_lt, Option, Some, None, Result, Ok, Err}
use Rattle.std.specs.Str.{bytes_eq}
use Rattle.yaml_lines.specs.declared.place.Place.{Place}
use Rattle.yaml_lines.specs.Trees.{Trees, none, more}
use Rattle.rule_traits.specs.declared.fault.RuleFault.{RuleFault}
use Rattle.rule_traits.specs.declared.fault.RuleFault.TheVariants.{UnknownKindName}
use Rattle.rule_traits.specs.declared.TheConstants.{MAX_KINDS}

-- A top-level node is a kind, unless its key begins with `^` (94).
abbrev pub is_kind : List ℕ → Bool
is_kind [] = true
is_kind (byte ∷ rest) = not (byte == 94)

-- The keys of the top-level nodes that are kinds, in order.
abbrev pub kind_keys : Trees → List (List ℕ)
kind_keys none = []
kind_keys (more key value place children rest) =
    if is_kind key then key ∷ kind_keys rest else kind_keys rest

-- The number after this one. All kinds that are too many share the number `MAX_KINDS`.
abbrev pub next_number : ℕ → ℕ
next_number number = if nat_lt number MAX_KINDS then number + 1 else number

-- The number of the first kind with this name, where the kinds of these nodes are numbered from
-- `number` on.
abbrev pub number_from : ℕ → List ℕ → Trees → Option ℕ
number_from number name none = None
number_from number name (more key value place children rest) =
    if is_kind key then
    (if bytes_eq name key then Some number else number_from (next_number number) name rest)
    else number_from number name rest

unfoldable pub number_of_kind : Trees → List ℕ → Option ℕ
number_of_kind top name = number_from 0 name top

-- A number after others, or a name that is no kind's.
abbrev pub with_number :
    Place → List ℕ → Option ℕ → (List ℕ → Result (List ℕ) RuleFault) → Result (List ℕ) RuleFault
with_number place done None next = Err (UnknownKindName place)
with_number place done (Some number) next = next (done ++ number ∷ [])

-- The numbers of the kinds with these names, after those that are done.
abbrev pub numbers_after : Trees → Place → List (List ℕ) → List ℕ → Result (List ℕ) RuleFault
numbers_after top place [] done = Ok done
numbers_after top place (name ∷ names) done =
    with_number place done (number_of_kind top name) (numbers_after top place names)
