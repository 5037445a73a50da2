-- Where an id stands in the order of places.
use Rattle.std.specs.Prelude.{◌≡◌, ◌≢◌, ℕ, ◌<◌, ◌≤◌, List, length, map, get_or, Some, slice_get}
use Rattle.actor_table.specs.Rising.{RisesFrom}
use Rattle.actor_table.specs.declared.place.Place.{Place}

-- The ids rise along the order.
abbrev pub IsRising : List Place → Type 0
IsRising order = RisesFrom (λ (p : Place). p.id) 0 order

-- The place at this index has the id.
abbrev pub IsIndexOf : List Place → ℕ → ℕ → Type 0
IsIndexOf order id at = slice_get (map (λ (p : Place). p.id) order) at ≡ Some id

-- No place has the id.
abbrev pub IsNowhere : List Place → ℕ → Type 0
IsNowhere order id = (k : ℕ) (d : Place) → k < length order → (get_or order k d).id ≢ id

-- Only places from one index up to another may have the id.
abbrev pub IsOnlyBetween : List Place → ℕ → ℕ → ℕ → Type 0
IsOnlyBetween order id from to =
    (k : ℕ) (d : Place) → k < length order → (get_or order k d).id ≡ id → (from ≤ k) × (k < to)
