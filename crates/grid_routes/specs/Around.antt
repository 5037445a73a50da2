-- What the neighbours of a cell count as.
use Rattle.std.specs.Prelude.{◌≡◌, ℕ, Option, Some, None}
use Rattle.world_units.specs.declared.cell.CPos.{CPos}
use Rattle.world_units.specs.Directions.{step_of}
use Rattle.game_model.specs.Grid.{Grid}
use Rattle.grid_routes.specs.declared.surface.Around.{Around}
use Rattle.grid_routes.specs.declared.surface.TheConstants.{ROCK}
use Rattle.grid_routes.specs.Values.{value_in}

-- The number of a cell, that of rock where there is no cell.
abbrev pub number_in : Grid ℕ → Option CPos → ℕ
number_in grid (Some p) = value_in ROCK grid p
number_in grid None = ROCK

-- The numbers of the neighbours in the north, the east, the south and the west.
pub record AreAround (grid : Grid ℕ) (q : CPos) (around : Around) : Type 0 where
  pub north : around.north ≡ number_in grid (step_of q 0)
  pub east : around.east ≡ number_in grid (step_of q 2)
  pub south : around.south ≡ number_in grid (step_of q 4)
  pub west : around.west ≡ number_in grid (step_of q 6)
