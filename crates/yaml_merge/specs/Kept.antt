-- Resolved top-level nodes that are kept, by their places at the top level, and where one serves.
use Rattle.std.specs.Prelude.{◌≡◌, ℕ, zero, suc, ◌+◌, ◌-◌, ◌<◌, ◌≤◌, false, List, [], ◌∷◌, ◌++◌}
use Rattle.std.specs.Prelude.{Option, Some, None, Ok, Err, IsSome, slice_get, unwrap_or}
use Rattle.std.specs.Prelude.{true}
use Rattle.std.proofs.Common.{Bor}
use Rattle.base.specs.Steps.{IsFault}
use Rattle.yaml_lines.specs.declared.forest.Node.{Node}
use Rattle.yaml_lines.specs.declared.forest.Forest.TheViews.{out-Node}
use Rattle.yaml_lines.specs.declared.TheConstants.{MAX_LEVELS}
use Rattle.yaml_lines.specs.Trees.{Trees, none, more, trees_of}
use Rattle.yaml_merge.specs.declared.fault.MergeFault.{MergeFault}
use Rattle.yaml_merge.specs.declared.fault.MergeFault.TheVariants.{NoMemory}
use Rattle.yaml_merge.specs.declared.resolved.Resolved.{Resolved}
use Rattle.yaml_merge.specs.declared.stop.Stop.{Stop}
use Rattle.yaml_merge.specs.declared.stop.Stop.TheVariants.{Fault, Parent}
use Rattle.yaml_merge.specs.declared.TheConstants.{MAX_PATH}
use Rattle.yaml_merge.specs.Places.{width, children_from}
use Rattle.yaml_merge.specs.Resolving.{Outcome, in_path, inherits, removes, resolved_list}

-- The key of the node at a place.
abbrev pub key_from : ℕ → Trees → List ℕ
key_from at none = []
key_from zero (more key value place children rest) = key
key_from (suc at) (more key value place children rest) = key_from at rest

-- What is kept of the node at a place.
abbrev pub slot : List (Option Resolved) → ℕ → Option Resolved
slot kept at = unwrap_or (slice_get kept at) None

-- No kept node of a height below this has its name in the path.
abbrev pub IsClear : Trees → List (Option Resolved) → ℕ → List (List ℕ) → Type 0
IsClear tops kept height path =
    (at : ℕ) → (held : Resolved) → slot kept at ≡ Some held → held.height < height →
    in_path (key_from at tops) path ≡ false

-- In every path that is clear and may get `height` more names, the outcome is this list.
abbrev pub Gives : Trees → List (Option Resolved) → (height : ℕ) → (ℕ → List (List ℕ) → Outcome) →
    Trees → Type 0
Gives tops kept height outcome list =
    (free : ℕ) → (path : List (List ℕ)) → height ≤ free → IsClear tops kept height path →
    outcome free path ≡ Ok list

-- The resolving of the top-level node at a place, whose name the path gets.
abbrev pub resolved_at : Trees → ℕ → ℕ → List (List ℕ) → Outcome
resolved_at tops at free path =
    resolved_list free (children_from at tops) (MAX_LEVELS - 1) tops
    (path ++ key_from at tops ∷ []) none

-- What is kept is what resolving gives.
abbrev pub AreKept : Trees → List (Option Resolved) → Type 0
AreKept tops kept =
    (at : ℕ) → (held : Resolved) → slot kept at ≡ Some held →
    Gives tops kept held.height (resolved_at tops at) (trees_of held.children)

-- The nodes that are kept stay kept, if perhaps as another list.
abbrev pub StayKept : (old new : List (Option Resolved)) → Type 0
StayKept old new = (at : ℕ) → IsSome (slot old at) → IsSome (slot new at)

-- Each top-level node before a place is kept, unless it is a removal.
abbrev pub AreKeptBefore : ℕ → Trees → List (Option Resolved) → Type 0
AreKeptBefore end tops kept =
    (at : ℕ) → at < end → removes (key_from at tops) ≡ false → IsSome (slot kept at)

-- Resolving stops at a fault, or at a parent that nothing kept serves for, and whose own fault is
-- that of the outcome.
abbrev pub Stops : Trees → List (Option Resolved) → (free : ℕ) → List (List ℕ) → Stop → Outcome →
    Type 0
Stops tops kept free path (Fault fault) outcome = IsFault NoMemory fault outcome
Stops tops kept free path (Parent at) outcome =
    (at < width tops) × (0 < free)
    × ((held : Resolved) → slot kept at ≡ Some held → free ≤ held.height)
    × ((fault : MergeFault) → resolved_at tops at (free - 1) path ≡ Err fault → outcome ≡ Err fault)

-- A top-level node that is to be kept next, with what resolving makes of it.
pub record IsNext (tops : Trees) (kept : List (Option Resolved)) (at : ℕ)
    (made : Resolved) : Type 0 where
  pub place : at < width tops
  pub gives : Gives tops kept made.height
      (λ free path. resolved_list free (children_from at tops) (MAX_LEVELS - 1) tops path none)
      (trees_of made.children)
  pub lower : (held : Resolved) → slot kept at ≡ Some held → made.height < held.height

-- How much higher the kept nodes could be: a node that isn't kept weighs more than any that is.
abbrev pub weight : List (Option Resolved) → ℕ
weight [] = 0
weight (None ∷ rest) = MAX_PATH + weight rest
weight (Some held ∷ rest) = held.height + weight rest

-- The node is an `Inherits` of the same name as the one before it.
abbrev pub Repeats : Option (Bor Node) → Node → Type 0
Repeats None node = ⊥
Repeats (Some before) node =
    (inherits (out-Node before.now).key ≡ true) × (inherits (out-Node node).key ≡ true)
    × ((out-Node before.now).value ≡ (out-Node node).value)
