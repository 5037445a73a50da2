-- The places of nodes in a list.
use Rattle.std.specs.Prelude.{◌≡◌, ℕ, zero, suc, true, false, List, [], ◌∷◌, if◌then◌else◌}
use Rattle.std.specs.Prelude.{Option, Some, None, option_map}
use Rattle.std.specs.Str.{bytes_eq}
use Rattle.yaml_lines.specs.declared.place.Place.{Place}
use Rattle.yaml_lines.specs.Trees.{Trees, none, more}
use Rattle.yaml_merge.specs.Merging.{newer_value}

-- How many nodes the list has, without those below them.
abbrev pub width : Trees → ℕ
width none = 0
width (more key value place children rest) = suc (width rest)

-- The keys of the list.
abbrev pub keys_of : Trees → List (List ℕ)
keys_of none = []
keys_of (more key value place children rest) = key ∷ keys_of rest

-- The first node with this key stands at this place of the list.
abbrev pub Stands : List ℕ → ℕ → Trees → Type 0
Stands key at none = ⊥
Stands key zero (more first value place children rest) = bytes_eq first key ≡ true
Stands key (suc at) (more first value place children rest) =
    (bytes_eq first key ≡ false) × Stands key at rest

-- The children of the node at a place.
abbrev pub children_from : ℕ → Trees → Trees
children_from at none = none
children_from zero (more key value place children rest) = children
children_from (suc at) (more key value place children rest) = children_from at rest

-- The list without the children of the node at a place, and the list without the children under a
-- key.
abbrev pub emptied_at : ℕ → Trees → Trees
emptied_at at none = none
emptied_at zero (more key value place children rest) = more key value place none rest
emptied_at (suc at) (more key value place children rest) =
    more key value place children (emptied_at at rest)

abbrev pub emptied : List ℕ → Trees → Trees
emptied key none = none
emptied key (more first value place children rest) =
    if bytes_eq first key then more first value place none rest
    else more first value place children (emptied key rest)

-- The list with a newer value, a new place and other children for the node at a place.
abbrev pub put_at : ℕ → List ℕ → Place → Trees → Trees → Trees
put_at at value place below none = none
put_at zero value place below (more key old last children rest) =
    more key (newer_value old value) place below rest
put_at (suc at) value place below (more key old last children rest) =
    more key old last children (put_at at value place below rest)

-- The list without the node at a place.
abbrev pub removed_from : ℕ → Trees → Trees
removed_from at none = none
removed_from zero (more key value place children rest) = rest
removed_from (suc at) (more key value place children rest) =
    more key value place children (removed_from at rest)

-- The place of the first node with this key.
abbrev pub place_in : List ℕ → Trees → Option ℕ
place_in key none = None
place_in key (more first value place children rest) =
    if bytes_eq first key then Some zero else option_map suc (place_in key rest)
