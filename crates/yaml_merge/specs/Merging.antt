-- Merging on plain trees.
use Rattle.std.specs.Prelude.{◌≡◌, ℕ, suc, ◌+◌, false, List, [], ◌∷◌, if◌then◌else◌, max, Option}
use Rattle.std.specs.Prelude.{Some, None}
use Rattle.std.specs.Str.{bytes_eq}
use Rattle.yaml_lines.specs.declared.place.Place.{Place}
use Rattle.yaml_lines.specs.Trees.{Trees, none, more}

-- The new value, unless it is empty.
abbrev pub newer_value : (old new : List ℕ) → List ℕ
newer_value old [] = old
newer_value old (byte ∷ rest) = byte ∷ rest

-- A node joins the list: where its key stands in it, it joins the node there, at its position; else
-- it is added last. `below` says what becomes of the children that the list had under this key.
abbrev pub joined : (key value : List ℕ) → Place → (Trees → Trees) → Trees → Trees
joined key value place below none = more key value place (below none) none
joined key value place below (more first old at children rest) =
    if bytes_eq first key then more first (newer_value old value) place (below children) rest
    else more first old at children (joined key value place below rest)

-- The children that the list has under a key.
abbrev pub children_at : List ℕ → Trees → Trees
children_at key none = none
children_at key (more first value place children rest) =
    if bytes_eq first key then children else children_at key rest

-- No node of the list has this key.
abbrev pub Lacks : List ℕ → Trees → Type 0
Lacks key none = Unit {0}
Lacks key (more first value place children rest) = (bytes_eq first key ≡ false) × Lacks key rest

-- The nodes of the first list taken in order into the second.
abbrev pub merged_into : Trees → Trees → Trees
merged_into none old = old
merged_into (more key value place children rest) old =
    merged_into rest (joined key value place (merged_into children) old)

-- All files, in order, as one list.
abbrev pub merged_files : List Trees → Trees → Trees
merged_files [] list = list
merged_files (file ∷ files) list = merged_files files (merged_into file list)

-- The list without the node of a key; nothing where no node has the key.
abbrev pub with_first : (key value : List ℕ) → Place → Trees → Option Trees → Option Trees
with_first key value place children None = None
with_first key value place children (Some rest) = Some (more key value place children rest)

abbrev pub without : List ℕ → Trees → Option Trees
without key none = None
without key (more first value place children rest) =
    if bytes_eq first key then Some rest
    else with_first first value place children (without key rest)

-- How many nodes a list has at all depths, and how many levels.
abbrev pub count : Trees → ℕ
count none = 0
count (more key value place children rest) = suc (count children + count rest)

abbrev pub levels : Trees → ℕ
levels none = 0
levels (more key value place children rest) = max (suc (levels children)) (levels rest)
