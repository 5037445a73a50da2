-- A list of which some nodes have been removed.
use Rattle.std.specs.Prelude.{◌≡◌, ℕ, Bool, true, false, List, [], ◌∷◌, if◌then◌else◌}
use Rattle.std.specs.Prelude.{get_or, set}
use Rattle.yaml_lines.specs.Trees.{Trees, none, more}

-- The nodes whose flags are set.
abbrev pub left_by : List Bool → Trees → Trees
left_by flags none = none
left_by [] (more key value place children rest) = none
left_by (flag ∷ flags) (more key value place children rest) =
    if flag then more key value place children (left_by flags rest) else left_by flags rest

-- The flag of a place is taken back, if it was set.
abbrev pub TakesFlag : ℕ → (old new : List Bool) → Bool → Type 0
TakesFlag at old new true = (get_or old at false ≡ true) × (new ≡ set old at false)
TakesFlag at old new false = (get_or old at false ≡ false) × (new ≡ old)
