-- What it costs to enter a cell from its neighbours.
use Rattle.std.specs.Prelude.{◌≡◌, ℕ, ◌*◌, ◌≤◌, if◌then◌else◌, Some}
use Rattle.world_units.specs.declared.cell.CPos.{CPos}
use Rattle.world_units.specs.Directions.{opposite_of, step_of}
use Rattle.game_model.specs.Walks.{step_cost_of}
use Rattle.grid_routes.specs.declared.step_costs.Corners.{Corners}
use Rattle.grid_routes.specs.declared.step_costs.StepCosts.{StepCosts}

-- What the step into q costs from its neighbour in direction d, 0 where it isn't allowed.
pub record IsStepCostFrom (entry_cost : CPos → ℕ) (q : CPos) (d step_cost : ℕ) : Type 0 where
  pub cost : (p : CPos) → step_of q d ≡ Some p → step_cost_of entry_cost p (opposite_of d) q ≡ step_cost
  pub cheap : step_cost ≤ 70

-- The step costs from all eight neighbours.
pub record AreStepCosts (entry_cost : CPos → ℕ) (q : CPos) (step_costs : StepCosts) : Type 0 where
  pub north : IsStepCostFrom entry_cost q 0 step_costs.straight
  pub north_east : IsStepCostFrom entry_cost q 1 step_costs.north_east
  pub east : IsStepCostFrom entry_cost q 2 step_costs.straight
  pub south_east : IsStepCostFrom entry_cost q 3 step_costs.south_east
  pub south : IsStepCostFrom entry_cost q 4 step_costs.straight
  pub south_west : IsStepCostFrom entry_cost q 5 step_costs.south_west
  pub west : IsStepCostFrom entry_cost q 6 step_costs.straight
  pub north_west : IsStepCostFrom entry_cost q 7 step_costs.north_west

-- The step costs of a cell with this entry cost, by the corners across which it can be entered.
abbrev pub step_costs_by : ℕ → Corners → StepCosts
step_costs_by entry_cost corners = record {
  straight = 5 * entry_cost;
  north_east = if corners.north_east then 7 * entry_cost else 0;
  south_east = if corners.south_east then 7 * entry_cost else 0;
  south_west = if corners.south_west then 7 * entry_cost else 0;
  north_west = if corners.north_west then 7 * entry_cost else 0;
}
