-- Lists of actors that are the same but for some of them, and numbers kept of such lists.
use Rattle.std.specs.Prelude.{◌≡◌, ℕ, ◌==◌, Bool, true, false, List, [], ◌∷◌}
use Rattle.std.specs.List.{list_any}
use Rattle.game_model.specs.declared.actor.Actor.{Actor}
use Rattle.sync_hash.specs.declared.actor_number.ActorNumber.{ActorNumber}
use Rattle.sync_hash.specs.Kept.{actor_number}

-- The id is one of these.
abbrev pub is_among : List ℕ → ℕ → Bool
is_among ids id = list_any (λ i. id == i) ids

-- The actors have the same ids in the same order, and those whose id is none of these are the same.
abbrev pub SameBut : List ℕ → List Actor → List Actor → Type 0
SameBut ids [] [] = Unit {0}
SameBut ids [] (b ∷ new) = ⊥
SameBut ids (a ∷ old) [] = ⊥
SameBut ids (a ∷ old) (b ∷ new) =
    (b.id ≡ a.id) × (is_among ids a.id ≡ false → b ≡ a) × SameBut ids old new

-- The same, but at most one actor may come last, whose id is one of these.
abbrev pub GrowsBut : List ℕ → List Actor → List Actor → Type 0
GrowsBut ids [] [] = Unit {0}
GrowsBut ids [] (b ∷ new) = (is_among ids b.id ≡ true) × (new ≡ [])
GrowsBut ids (a ∷ old) [] = ⊥
GrowsBut ids (a ∷ old) (b ∷ new) =
    (b.id ≡ a.id) × (is_among ids a.id ≡ false → b ≡ a) × GrowsBut ids old new

-- The numbers are those of the actors, but for actors whose id is one of these; one that comes last
-- may have none yet.
abbrev pub KeptBut : List ℕ → List ActorNumber → List Actor → Type 0
KeptBut ids [] [] = Unit {0}
KeptBut ids [] (a ∷ actors) = (is_among ids a.id ≡ true) × (actors ≡ [])
KeptBut ids (k ∷ kept) [] = ⊥
KeptBut ids (k ∷ kept) (a ∷ actors) =
    (k.id ≡ a.id) × (is_among ids a.id ≡ false → k.number ≡ actor_number a) × KeptBut ids kept actors
