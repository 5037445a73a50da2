-- What it costs to enter the cells of a map on the way to a goal.
use Rattle.std.specs.Prelude.{◌≡◌, ℕ, ◌≤◌, Bool, List}
use Rattle.world_units.specs.declared.cell.CPos.{CPos}
use Rattle.rule_traits.specs.declared.trait_fields.Costs.{Costs}
use Rattle.game_model.specs.declared.terrain.Terrain.{Terrain}
use Rattle.game_model.specs.Grid.{Grid, HasSize}
use Rattle.game_model.specs.Walks.{Land, entry_cost_of}
use Rattle.grid_routes.specs.Footing.{IsFooting, charges_of, number_at}

-- The ground of a map with its buildings, and a question over it: where to, and at which costs.
pub record Ground : Type 0 where
  pub terrain : Grid Terrain
  pub built : Grid Bool
  pub costs : Costs
  pub goal : CPos

-- A ground and a question over it.
abbrev pub ground_of : Grid Terrain → Grid Bool → Costs → CPos → Ground
ground_of terrain built costs goal =
    record { terrain = terrain; built = built; costs = costs; goal = goal }

-- The entry cost of a cell.
abbrev pub entry_cost_in : Ground → CPos → ℕ
entry_cost_in ground = entry_cost_of ground.terrain ground.built ground.costs ground.goal

-- The walks over a ground to a goal, at these costs.
abbrev pub land_over : Grid Terrain → Grid Bool → Costs → CPos → Land
land_over terrain built costs goal =
    record { entry_cost = entry_cost_of terrain built costs goal; goal = goal }

-- Each cost is at most 10.
pub record IsCheap (costs : Costs) : Type 0 where
  pub clear : costs.clear ≤ 10
  pub road : costs.road ≤ 10
  pub rough : costs.rough ≤ 10
  pub water : costs.water ≤ 10

-- The buildings are those of the map, and the costs are cheap.
pub record IsGround (ground : Ground) : Type 0 where
  pub size : HasSize ground.terrain.width ground.terrain.height ground.built
  pub cheap : IsCheap ground.costs

-- The surface has the ground's size and the number of what each cell counts as, and the charges are
-- those of the costs.
pub record AreEntryCosts (ground : Ground) (surface : Grid ℕ) (charges : List ℕ) : Type 0 where
  pub sound : IsGround ground
  pub size : HasSize ground.terrain.width ground.terrain.height surface
  pub footing : IsFooting (number_at ground.terrain ground.built ground.goal) surface
  pub charged : charges ≡ charges_of ground.costs
