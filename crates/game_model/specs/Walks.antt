-- Walks over the cells of a map, their cost, the distance, and the best direction.
use Rattle.std.specs.Prelude.{◌≡◌, ℕ, ◌+◌, ◌*◌, ◌%◌, ◌<◌, ◌≤◌, ◌==◌, ◌&&◌, ◌||◌, not, nat_lt, Bool}
use Rattle.std.specs.Prelude.{if◌then◌else◌, Option, ◌⊎◌, Some, None, List, [], ◌∷◌, true}
use Rattle.world_units.specs.declared.cell.CPos.{CPos}
use Rattle.world_units.specs.Cells.{same_cell}
use Rattle.world_units.specs.Directions.{step_of}
use Rattle.rule_traits.specs.declared.trait_fields.Costs.{Costs}
use Rattle.game_model.specs.declared.terrain.Terrain.{Terrain}
use Rattle.game_model.specs.declared.map.Map.{Map}
use Rattle.game_model.specs.Grid.{Grid, at_cell, is_on}
use Rattle.game_model.specs.Terrain.{cost_on}

-- What each cell costs that is entered, 0 where it can't be entered, and the cell to go to.
pub record Land : Type 0 where
  pub entry_cost : CPos → ℕ
  pub goal : CPos

abbrev pub cost_at : Costs → Option Terrain → ℕ
cost_at costs (Some terrain) = cost_on costs terrain
cost_at costs None = 0

abbrev pub holds : Option Bool → Bool
holds (Some here) = here
holds None = true

-- What it costs to enter a cell on the way to a goal. A cell off the map can't be entered, nor one
-- with a building that isn't the goal.
unfoldable pub entry_cost_of : Grid Terrain → Grid Bool → Costs → CPos → CPos → ℕ
entry_cost_of terrain built costs goal p =
    if is_on terrain.width terrain.height p && (same_cell p goal || not (holds (at_cell built p)))
    then cost_at costs (at_cell terrain p)
    else 0

-- A map with its buildings, for a kind with these costs and a goal.
abbrev pub land_of : Map → Grid Bool → Costs → CPos → Land
land_of map built costs goal =
    record { entry_cost = entry_cost_of map.terrain built costs goal; goal = goal }

-- The cell can be entered.
abbrev pub is_free : (CPos → ℕ) → Option CPos → Bool
is_free entry_cost (Some p) = nat_lt 0 (entry_cost p)
is_free entry_cost None = not true

-- What the step from a cell in direction d costs that enters q, 0 where it isn't allowed. A step
-- across a corner (odd directions) needs both cells beside it to be free.
unfoldable pub step_cost_of : (CPos → ℕ) → CPos → ℕ → CPos → ℕ
step_cost_of entry_cost p d q =
    if d % 2 == 0 then 5 * entry_cost q
    else (
    if is_free entry_cost (step_of p ((d + 1) % 8)) && is_free entry_cost (step_of p ((d + 7) % 8))
    then 7 * entry_cost q
    else 0
    )

-- An allowed step from a cell in direction d, which enters q and costs k.
pub record IsStep (entry_cost : CPos → ℕ) (p : CPos) (d : ℕ) (q : CPos) (k : ℕ) : Type 0 where
  pub direction : d < 8
  pub enters : step_of p d ≡ Some q
  pub cost : step_cost_of entry_cost p d q ≡ k
  pub allowed : 0 < k

-- A walk from a cell over these cells to the goal, whose steps cost n together.
abbrev pub IsWalk : Land → CPos → List CPos → ℕ → Type 0
IsWalk land p [] n = (p ≡ land.goal) × (n ≡ 0)
IsWalk land p (q ∷ cells) n =
    (d : ℕ) × (k : ℕ) × (m : ℕ) × IsStep land.entry_cost p d q k × (n ≡ k + m) × IsWalk land q cells m

-- The distance of a cell: the cost of a walk, and no walk costs less.
pub record IsDistance (land : Land) (p : CPos) (n : ℕ) : Type 0 where
  pub walk : (cells : List CPos) × IsWalk land p cells n
  pub least : (cells : List CPos) (m : ℕ) → IsWalk land p cells m → n ≤ m

-- There is no walk.
pub record HasNoWalk (land : Land) (p : CPos) : Type 0 where
  pub none : (cells : List CPos) (m : ℕ) → IsWalk land p cells m → ⊥

-- The step in direction d enters a cell with the distance of p less the step's cost.
pub record LeadsOn (land : Land) (p : CPos) (d : ℕ) : Type 0 where
  pub entered : CPos
  pub cost : ℕ
  pub left : ℕ
  pub step : IsStep land.entry_cost p d entered cost
  pub here : IsDistance land p (cost + left)
  pub there : IsDistance land entered left

-- The least direction that leads on.
pub record IsBest (land : Land) (p : CPos) (d : ℕ) : Type 0 where
  pub leads : LeadsOn land p d
  pub least : (e : ℕ) → LeadsOn land p e → d ≤ e

-- The best direction of a cell. There is none exactly where no walk exists or the cell is the goal.
abbrev pub IsBestDirection : Land → CPos → Option ℕ → Type 0
IsBestDirection land p (Some d) = IsBest land p d
IsBestDirection land p None = (p ≡ land.goal) ⊎ HasNoWalk land p

-- These cells are entered one after the other, each by the best direction, up to the goal.
abbrev pub FollowsBest : Land → CPos → List CPos → Type 0
FollowsBest land p [] = p ≡ land.goal
FollowsBest land p (q ∷ cells) =
    (d : ℕ) × IsBest land p d × (step_of p d ≡ Some q) × FollowsBest land q cells

-- A walk of least cost over these cells, which takes the best direction at each of them.
pub record IsRouteOver (land : Land) (from : CPos) (cost : ℕ) (cells : List CPos) : Type 0 where
  pub entered : List CPos
  pub all : cells ≡ from ∷ entered
  pub walk : IsWalk land from entered cost
  pub best : FollowsBest land from entered
  pub least : (other : List CPos) (m : ℕ) → IsWalk land from other m → cost ≤ m
