-- What a router knows of walks: steps in best directions over one ground.
use Rattle.std.specs.Prelude.{◌≡◌, ◌⊎◌, ℕ, ◌∷◌, [], ◌++◌, All, Bool, List, Contains, slice_set}
use Rattle.world_units.specs.declared.cell.CPos.{CPos}
use Rattle.game_model.specs.declared.terrain.Terrain.{Terrain}
use Rattle.game_model.specs.Grid.{Grid}
use Rattle.game_model.specs.Walks.{Land, IsBest}
use Rattle.grid_routes.specs.EntryCosts.{land_over}
use Rattle.grid_routes.specs.declared.ask.Ask.{Ask}
use Rattle.grid_routes.specs.declared.known_walk.KnownStep.{KnownStep}
use Rattle.grid_routes.specs.declared.known_walk.KnownWalk.{KnownWalk}

-- The step goes in the best direction of its cell.
abbrev pub IsBestStep : Land → KnownStep → Type 0
IsBestStep land step = IsBest land step.cell step.direction

-- Each step goes in the best direction of its cell over this ground, for the walk's goal and costs.
pub record IsBestWalk (terrain : Grid Terrain) (built : Grid Bool) (walk : KnownWalk) : Type 0 where
  pub each : All (IsBestStep (land_over terrain built walk.ask.costs walk.ask.goal)) walk.steps.items

-- Each walk has such steps.
pub record AreBest (terrain : Grid Terrain) (built : Grid Bool) (walks : List KnownWalk) : Type 0
  where
    pub each : All (IsBestWalk terrain built) walks

-- A walk to this goal at these costs has the step from the cell in this direction.
pub record IsKnown (walks : List KnownWalk) (ask : Ask) (cell : CPos) (d : ℕ) : Type 0 where
  pub walk : KnownWalk
  pub known : Contains walks walk
  pub asked : walk.ask ≡ ask
  pub step : Contains walk.steps.items (record { cell = cell; direction = d })

-- A step was added last, or was let go.
abbrev pub IsAdded : (old new : List KnownStep) → KnownStep → Type 0
IsAdded old new step = (new ≡ old) ⊎ (new ≡ old ++ step ∷ [])

-- A walk was added last or took some place, or was let go.
abbrev pub IsPut : (old new : List KnownWalk) → KnownWalk → Type 0
IsPut old new walk =
    (new ≡ old) ⊎ (new ≡ old ++ walk ∷ []) ⊎ ((place : ℕ) × (new ≡ slice_set old place walk))
