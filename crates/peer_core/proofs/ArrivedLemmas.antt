-- What holds of each entry holds of each after a delivery, if it holds of what is delivered.
use Rattle.std.specs.Prelude.{◌≡◌, true, false, if◌then◌else◌, List, [], ◌∷◌}
use Rattle.std.specs.List.{AllByRecursion}
use Rattle.peer_core.specs.declared.arrived.Arrived.{Arrived}
use Rattle.peer_core.specs.declared.delivered.Delivered.{Delivered}
use Rattle.peer_core.specs.declared.delivered.Delivered.TheVariants.{Kept, Repeat, Conflict, Past}
use Rattle.peer_core.specs.declared.delivered.Delivered.TheVariants.{Beyond}
use Rattle.peer_core.specs.Arrived.{stands_before, with_arrived}
use Rattle.peer_core.specs.Delivery.{after_delivery}

-- One more entry.
pub all_with_arrived :
    (P : Arrived → Type 0) (a : Arrived) (xs : List Arrived) → P a → AllByRecursion P xs →
    AllByRecursion P (with_arrived a xs)
all_with_arrived P a [] here all = (here, tt)
all_with_arrived P a (u ∷ xs) here all =
    elim (stands_before a u) as (λ b. AllByRecursion P
    (if b then a ∷ u ∷ xs else u ∷ with_arrived a xs)) [
      | true ↦ (here, all)
      | false ↦ (all.0, all_with_arrived P a xs here all.1)
    ]

-- Whatever the answer is.
pub all_after_delivery :
    (P : Arrived → Type 0) (answer : Delivered) (a : Arrived) (xs : List Arrived) →
    (answer ≡ Kept → P a) → AllByRecursion P xs → AllByRecursion P (after_delivery answer a xs)
all_after_delivery P Kept a xs here all = all_with_arrived P a xs (here cc) all
all_after_delivery P Repeat a xs here all = all
all_after_delivery P (Conflict kept) a xs here all = all
all_after_delivery P (Past at) a xs here all = all
all_after_delivery P Beyond a xs here all = all
