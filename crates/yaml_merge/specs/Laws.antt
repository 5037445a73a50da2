-- What an author of rule files may rely on.
use Rattle.std.specs.Prelude.{◌≡◌, ℕ, ◌≤◌, Bool, true, false, List, [], ◌∷◌, if◌then◌else◌}
use Rattle.std.specs.Prelude.{Option, Some, None, Ok, IfOk, All}
use Rattle.std.specs.Str.{bytes_eq}
use Rattle.yaml_lines.specs.declared.place.Place.{Place}
use Rattle.yaml_lines.specs.Trees.{Trees, none, more}
use Rattle.yaml_merge.specs.declared.TheConstants.{MAX_LIST_NODES, MAX_FOREST_NODES}
use Rattle.yaml_merge.specs.Merging.{Lacks, count, merged_files}
use Rattle.yaml_merge.specs.Resolving.{inherits, removes, parent_of, parents, resolved_list}
use Rattle.yaml_merge.specs.Resolving.{resolved_files}
use Rattle.yaml_merge.specs.Settled.{IsSettled, IsSettledTop}

-- The nodes of one list, and after them those of another.
abbrev pub followed_by : Trees → Trees → Trees
followed_by none last = last
followed_by (more key value place children rest) last =
    more key value place children (followed_by rest last)

-- A node of the list has this key.
abbrev pub has_node : List ℕ → Trees → Bool
has_node key none = false
has_node key (more first value place children rest) =
    if bytes_eq first key then true else has_node key rest

-- The value of the first node with this key.
abbrev pub value_at : List ℕ → Trees → Option (List ℕ)
value_at key none = None
value_at key (more first value place children rest) =
    if bytes_eq first key then Some value else value_at key rest

-- The value isn't empty.
abbrev pub IsGiven : List ℕ → Type 0
IsGiven [] = ⊥
IsGiven (byte ∷ rest) = Unit {0}

-- No top-level node has too many nodes below it, and the forest hasn't too many.
abbrev pub AreSmall : Trees → Type 0
AreSmall none = Unit {0}
AreSmall (more key value place children rest) = (count children ≤ MAX_LIST_NODES) × AreSmall rest

abbrev pub IsSmall : Trees → Type 0
IsSmall trees = (count trees ≤ MAX_FOREST_NODES) × AreSmall trees

-- A list below the top level in which nothing is inherited or removed, at any depth.
abbrev pub IsPlain : Trees → Type 0
IsPlain none = Unit {0}
IsPlain (more key value place children rest) =
    (inherits key ≡ false) × (removes key ≡ false) × IsPlain children × IsPlain rest

-- The same of a top level, where `Inherits` is a name like any other.
abbrev pub IsPlainTop : Trees → Type 0
IsPlainTop none = Unit {0}
IsPlainTop (more key value place children rest) =
    (removes key ≡ false) × IsPlain children × IsPlainTop rest

-- Nodes that leave a key as it is: none inherits, none has the key, none removes (45) it.
abbrev pub LeavesAlone : List ℕ → Trees → Type 0
LeavesAlone key none = Unit {0}
LeavesAlone key (more first value place children rest) =
    (inherits first ≡ false) × (bytes_eq first key ≡ false) × (bytes_eq first (45 ∷ key) ≡ false)
    × LeavesAlone key rest

-- A settled forest of at most the greatest size resolves to itself.
abbrev pub SettledStays : Type 0
SettledStays =
    (trees : Trees) → IsSettledTop trees → IsSmall trees → resolved_files (trees ∷ []) ≡ Ok trees

-- What resolving gave resolves to itself.
abbrev pub ResolvedStays : Type 0
ResolvedStays =
    (files : List Trees) →
    IfOk (resolved_files files) (λ trees. resolved_files (trees ∷ []) ≡ Ok trees)

-- Where nothing is inherited or removed, and nothing is refused, resolving is merging.
abbrev pub PlainIsMerged : Type 0
PlainIsMerged =
    (files : List Trees) → All IsPlainTop files →
    IfOk (resolved_files files) (λ trees. trees ≡ merged_files files none)

-- Directly after the removal of a name, whatever stands above it, no node has the name.
abbrev pub RemovalRemoves : Type 0
RemovalRemoves =
    (free room : ℕ) (tops : Trees) (path : List (List ℕ)) (start above below : Trees)
    (name value : List ℕ) (place : Place) → IsSettled start →
    IfOk (resolved_list free (followed_by above (more (45 ∷ name) value place below none)) room
    tops path start) (Lacks name)

-- A name that the files remove at the top level is no top-level node of the answer.
abbrev pub TopRemovalRemoves : Type 0
TopRemovalRemoves =
    (files : List Trees) (name : List ℕ) →
    has_node (45 ∷ name) (merged_files files none) ≡ true →
    IfOk (resolved_files files) (Lacks name)

-- A value that isn't empty holds, whatever stands above it, where what comes after leaves it alone.
abbrev pub ChildWins : Type 0
ChildWins =
    (free room : ℕ) (tops : Trees) (path : List (List ℕ)) (start above below children : Trees)
    (key value : List ℕ) (place : Place) →
    inherits key ≡ false → removes key ≡ false → IsGiven value → LeavesAlone key below →
    IfOk (resolved_list free (followed_by above (more key value place children below)) room tops
    path start) (λ list. value_at key list ≡ Some value)

-- An empty value leaves the value that the key has above it.
abbrev pub EmptyGivesWay : Type 0
EmptyGivesWay =
    (free room : ℕ) (tops : Trees) (path : List (List ℕ))
    (start above below children so_far : Trees) (key value : List ℕ) (place : Place) →
    inherits key ≡ false → removes key ≡ false → LeavesAlone key below →
    resolved_list free above room tops path start ≡ Ok so_far → value_at key so_far ≡ Some value →
    IfOk (resolved_list free (followed_by above (more key [] place children below)) room tops path
    start) (λ list. value_at key list ≡ Some value)

-- A value of a parent, as the parent is resolved, that isn't empty holds against whatever stands
-- above the `Inherits`, where what comes after leaves it alone.
abbrev pub ParentWins : Type 0
ParentWins =
    (free room : ℕ) (tops : Trees) (path : List (List ℕ))
    (start above below children parent inherited : Trees) (word name key value : List ℕ)
    (place : Place) →
    inherits word ≡ true → parent_of name tops ≡ Some parent →
    parents free tops path name parent ≡ Ok inherited →
    value_at key inherited ≡ Some value → IsGiven value → LeavesAlone key below →
    IfOk (resolved_list free (followed_by above (more word name place children below)) room tops
    path start) (λ list. value_at key list ≡ Some value)
