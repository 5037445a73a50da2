-- A list of nodes as the code holds it while it grows: a slot for each node that was added, in
-- order, of which those of removed nodes are dead.
use Rattle.std.specs.Prelude.{◌≡◌, ℕ, zero, suc, Bool, true, false, ◌&&◌, List, [], ◌∷◌}
use Rattle.std.specs.Prelude.{if◌then◌else◌, Option, Some, None, MatchOption}
use Rattle.std.specs.Str.{bytes_eq}
use Rattle.std.specs.HashMap.{HashMap, get}
use Rattle.std.specs.Prelude.{Box}
use Rattle.std.proofs.Common.{Global}
use Rattle.yaml_lines.specs.Trees.{Trees, none, more}
use Rattle.yaml_merge.specs.declared.growing_list.Slot.{Slot}
use Rattle.yaml_merge.specs.declared.index.Index.{Index}
use Rattle.yaml_merge.specs.declared.hashers.Hashers.{Hashers}

-- The nodes that are there.
abbrev pub standing : List Slot → Trees
standing [] = none
standing (slot ∷ rest) =
    if slot.live then more slot.key slot.value slot.place slot.children (standing rest)
    else standing rest

-- The slot has a node with this key.
abbrev pub holds : List ℕ → Slot → Bool
holds key slot = slot.live && bytes_eq slot.key key

-- No slot has a node with this key.
abbrev pub LacksKey : List ℕ → List Slot → Type 0
LacksKey key [] = Unit {0}
LacksKey key (slot ∷ rest) = (holds key slot ≡ false) × LacksKey key rest

-- The first slot that has a node with this key is at this place.
abbrev pub StandsAt : List ℕ → ℕ → List Slot → Type 0
StandsAt key at [] = ⊥
StandsAt key zero (slot ∷ rest) = holds key slot ≡ true
StandsAt key (suc at) (slot ∷ rest) = (holds key slot ≡ false) × StandsAt key at rest

-- The answer to a search for a key.
abbrev pub IsFound : List ℕ → List Slot → Option ℕ → Type 0
IsFound key slots found = MatchOption found (LacksKey key slots) (λ at. StandsAt key at slots)

-- No key is in two slots, and a dead slot has no children.
abbrev pub IsWhole : List Slot → Type 0
IsWhole [] = Unit {0}
IsWhole (slot ∷ rest) =
    (slot.live ≡ true → LacksKey slot.key rest) × (slot.live ≡ false → slot.children ≡ none)
    × IsWhole rest

-- A list without nodes has no slots.
abbrev pub NoneLeft : List Slot → ℕ → Type 0
NoneLeft slots total = total ≡ 0 → slots ≡ []

-- The index finds each key.
abbrev pub Finds : Index → List Slot → Type 0
Finds index slots =
    MatchOption index.places (Unit {0})
    (λ held. (key : List ℕ) → IsFound key slots (get bytes_eq held.value key))

-- The index without a key.
abbrev pub Forgets : List ℕ → (old new : Index) → Type 0
Forgets key old new =
    MatchOption old.places (new.places ≡ None)
    (λ held. (after : Box (HashMap (List ℕ) ℕ Hashers) Global) × (new.places ≡ Some after)
    × ((other : List ℕ) → get bytes_eq after.value other
    ≡ (if bytes_eq key other then None else get bytes_eq held.value other)))
