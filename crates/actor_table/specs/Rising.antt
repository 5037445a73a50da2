-- Lists that rise by the number of each element, as actors do by id.
use Rattle.std.specs.Prelude.{ℕ, ◌+◌, ◌≤◌, List, [], ◌∷◌}

module _ {T : Type 0} (number : T → ℕ) where
  -- The numbers rise, each above the one before it, and the first is at least this one.
  abbrev pub RisesFrom : ℕ → List T → Type 0
  RisesFrom least [] = Unit {0}
  RisesFrom least (x ∷ xs) = (least ≤ number x) × RisesFrom (number x + 1) xs
