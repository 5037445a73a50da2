-- What the cells of a map count as on the way to a goal, as numbers of terrains.
use Rattle.std.specs.Prelude.{◌≡◌, ◌≢◌, ℕ, ◌<◌, ◌||◌, not, Bool, if◌then◌else◌, Option}
use Rattle.std.specs.Prelude.{Some, None, List, [], ◌∷◌}
use Rattle.world_units.specs.declared.cell.CPos.{CPos}
use Rattle.world_units.specs.Cells.{same_cell}
use Rattle.rule_traits.specs.declared.trait_fields.Costs.{Costs}
use Rattle.game_model.specs.declared.terrain.Terrain.{Terrain}
use Rattle.game_model.specs.Grid.{Grid, HasSize, IsOn, at_cell}
use Rattle.game_model.specs.Terrain.{number_of}
use Rattle.game_model.specs.Walks.{holds}
use Rattle.grid_routes.specs.declared.surface.TheConstants.{ROCK}
use Rattle.grid_routes.specs.Values.{value_in}

abbrev pub number_or_rock : Option Terrain → ℕ
number_or_rock (Some terrain) = number_of terrain
number_or_rock None = ROCK

-- The number of a cell's terrain, or that of rock where a building stands that isn't the goal.
unfoldable pub number_at : Grid Terrain → Grid Bool → CPos → CPos → ℕ
number_at terrain built goal p =
    if same_cell p goal || not (holds (at_cell built p)) then number_or_rock (at_cell terrain p)
    else ROCK

-- Each cell has its number.
pub record IsFooting (number : CPos → ℕ) (grid : Grid ℕ) : Type 0 where
  pub each : (p : CPos) → IsOn grid.width grid.height p → value_in ROCK grid p ≡ number p

-- The cells of the rows above y, and those of row y before x, have their numbers.
pub record ArePut (number : CPos → ℕ) (grid : Grid ℕ) (y x : ℕ) : Type 0 where
  pub above :
      (p : CPos) → p.y < y → IsOn grid.width grid.height p → value_in ROCK grid p ≡ number p
  pub before :
      (p : CPos) → p.y ≡ y → p.x < x → IsOn grid.width grid.height p →
      value_in ROCK grid p ≡ number p

-- A cell of the map got its number, and the others have those that they had.
pub record IsRenewed (number : CPos → ℕ) (old new : Grid ℕ) (p : CPos) : Type 0 where
  pub size : HasSize old.width old.height new
  pub here : IsOn old.width old.height p → value_in ROCK new p ≡ number p
  pub others : (q : CPos) → q ≢ p → value_in ROCK new q ≡ value_in ROCK old q

-- What entering each terrain costs, by its number.
abbrev pub charges_of : Costs → List ℕ
charges_of costs = costs.clear ∷ costs.road ∷ costs.rough ∷ costs.water ∷ 0 ∷ []
