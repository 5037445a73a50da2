-- Resolving: each parent is resolved anew each time it is inherited.
use Rattle.std.specs.Prelude.{ℕ, zero, suc, ◌-◌, Bool, false, ◌||◌, List, [], ◌∷◌, ◌++◌}
use Rattle.std.specs.Prelude.{if◌then◌else◌, ◌==◌, nat_lt, take, drop, codes, Option, Some, None}
use Rattle.std.specs.Prelude.{Result, Ok, Err}
use Rattle.std.specs.Str.{bytes_eq}
use Rattle.base.specs.Steps.{◌>>=◌}
use Rattle.yaml_lines.specs.declared.place.Place.{Place}
use Rattle.yaml_lines.specs.declared.TheConstants.{MAX_LEVELS}
use Rattle.yaml_lines.specs.Trees.{Trees, none, more}
use Rattle.yaml_merge.specs.declared.fault.MergeFault.{MergeFault}
use Rattle.yaml_merge.specs.declared.fault.MergeFault.TheVariants.{NoParent, Cycle, NothingToRemove}
use Rattle.yaml_merge.specs.declared.fault.MergeFault.TheVariants.{TooLarge, TooDeep}
use Rattle.yaml_merge.specs.declared.TheConstants.{MAX_PATH, MAX_LIST_NODES, MAX_FOREST_NODES}
use Rattle.yaml_merge.specs.Merging.{joined, children_at, merged_into, merged_files, without, count}
use Rattle.yaml_merge.specs.Merging.{levels}

-- The key is `Inherits`, or begins with `Inherits@`.
unfoldable pub inherits : List ℕ → Bool
inherits key = bytes_eq key (codes "Inherits") || bytes_eq (take 9 key) (codes "Inherits@")

-- The key is a removal: it begins with `-`. The rest of it is the key that is removed.
abbrev pub removes : List ℕ → Bool
removes [] = false
removes (byte ∷ rest) = byte == 45

-- The children of the top-level node that a name names. Removals have no name.
abbrev pub parent_of : List ℕ → Trees → Option Trees
parent_of name none = None
parent_of name (more key value place children rest) =
    if removes name then None
    else (if bytes_eq key name then Some children else parent_of name rest)

-- The name stands in the path.
abbrev pub in_path : List ℕ → List (List ℕ) → Bool
in_path name [] = false
in_path name (first ∷ path) = bytes_eq first name || in_path name path

abbrev pub Outcome : Type 0
Outcome = Result Trees MergeFault

-- A list that may have grown too large at this place.
unfoldable pub within : ℕ → Place → Trees → Outcome
within limit place list = if nat_lt limit (count list) then Err (TooLarge place) else Ok list

-- The resolved children of a parent merged into a list whose nodes may take up `room` levels.
unfoldable pub inherited : ℕ → Place → Trees → Trees → Outcome
inherited room place list parent =
    if nat_lt room (levels parent) then Err (TooDeep place) else Ok (merged_into parent list)

abbrev pub removed : Place → Option Trees → Outcome
removed place None = Err (NothingToRemove place)
removed place (Some list) = Ok list

-- One `Inherits` node, for the children of the parent that it names, if there is one. The path may
-- get `free` more names.
abbrev pub inherit_step : (free room : ℕ) → Place → List ℕ → List (List ℕ) →
    (parents : Trees → Outcome) → Trees → Option Trees → Outcome
inherit_step free room place name path parents list None = Err (NoParent place)
inherit_step free room place name path parents list (Some children) =
    if in_path name path then Err (Cycle place)
    else (if free == 0 then Err (TooDeep place) else parents children >>= inherited room place list)

-- A node that joins the list with its children, of which `below` says how they are resolved.
abbrev pub join_step : (key value : List ℕ) → Place → (below : Trees → Outcome) → Trees → Outcome
join_step key value place below list =
    below (children_at key list) >>= λ children. Ok (joined key value place (λ _. children) list)

-- One node of a list that is being resolved: what it inherits or removes, or the node with its
-- children, of which `below` says how they are resolved.
unfoldable pub node_step : (free room : ℕ) → (tops : Trees) → List (List ℕ) → (key value : List ℕ) →
    Place → (parents below : Trees → Outcome) → Trees → Outcome
node_step free room tops path key value place parents below list =
    if inherits key then inherit_step free room place value path parents list (parent_of value tops)
    else (if removes key then removed place (without (drop 1 key) list)
    else join_step key value place below list)

-- The nodes of a list taken in order into a list that is there: for the resolving of the top-level
-- nodes `tops`, where the path may get `free` more names and the nodes may take up `room` levels.
unfoldable pub resolved_list : (free : ℕ) → (list : Trees) → (room : ℕ) → (tops : Trees) →
    (path : List (List ℕ)) → Trees → Outcome
resolved_list free none room tops path start = Ok start
resolved_list zero (more key value place children rest) room tops path start =
    node_step zero room tops path key value place (λ parent. Ok none)
    (λ old. resolved_list zero children (room - 1) tops path old) start
    >>= within MAX_LIST_NODES place
    >>= λ list. resolved_list zero rest room tops path list
resolved_list (suc free) (more key value place children rest) room tops path start =
    node_step (suc free) room tops path key value place
    (λ parent. resolved_list free parent (MAX_LEVELS - 1) tops (path ++ value ∷ []) none)
    (λ old. resolved_list (suc free) children (room - 1) tops path old) start
    >>= within MAX_LIST_NODES place
    >>= λ list. resolved_list (suc free) rest room tops path list

-- How a parent is resolved for a node whose path may get `free` more names.
abbrev pub parents : (free : ℕ) → (tops : Trees) → List (List ℕ) → List ℕ → Trees → Outcome
parents zero tops path name parent = Ok none
parents (suc free) tops path name parent =
    resolved_list free parent (MAX_LEVELS - 1) tops (path ++ name ∷ []) none

-- One node of a list that is being resolved, with all that is below it.
unfoldable pub taken_in : (free room : ℕ) → (tops : Trees) → List (List ℕ) → (key value : List ℕ) →
    Place → Trees → Trees → Outcome
taken_in free room tops path key value place children list =
    node_step free room tops path key value place (parents free tops path value)
    (λ old. resolved_list free children (room - 1) tops path old) list

-- A node added last.
abbrev pub added : (key value : List ℕ) → Place → Trees → Trees → Trees
added key value place children none = more key value place children none
added key value place children (more first old at others rest) =
    more first old at others (added key value place children rest)

-- The top-level nodes that are no removals, each resolved, in order.
abbrev pub resolved_tops : Trees → Trees → Trees → Outcome
resolved_tops none tops done = Ok done
resolved_tops (more key value place children rest) tops done =
    if removes key then resolved_tops rest tops done
    else
    resolved_list (MAX_PATH - 1) children (MAX_LEVELS - 1) tops (key ∷ []) none
    >>= (λ below. within MAX_FOREST_NODES place (added key value place below done))
    >>= λ next. resolved_tops rest tops next

-- The removals at the top level, in order.
abbrev pub removed_tops : Trees → Trees → Outcome
removed_tops none done = Ok done
removed_tops (more key value place children rest) done =
    if removes key
    then removed place (without (drop 1 key) done) >>= (λ next. removed_tops rest next)
    else removed_tops rest done

-- The resolved forest of some files, or the first fault in the order of resolving.
unfoldable pub resolved_files : List Trees → Outcome
resolved_files files =
    let tops = merged_files files none in
    resolved_tops tops tops none >>= λ done. removed_tops tops done
