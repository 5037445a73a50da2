-- What an actor's way would be.
use Rattle.std.specs.Prelude.{ℕ, Option}
use Rattle.world_units.specs.declared.cell.CPos.{CPos}
use Rattle.game_model.specs.declared.world.World.{World}
use Rattle.game_model.specs.Kinds.{costs_in, kind_of}
use Rattle.game_model.specs.Setup.{Setup}
use Rattle.game_model.specs.Walks.{land_of}
use Rattle.game_tick.specs.Turn.{blocks_of}
use Rattle.grid_routes.specs.declared.route.Route.{Route}
use Rattle.grid_routes.specs.Steps.{IsRoute}

-- The walk of an actor of the kind in this world: of least cost over the terrain and the buildings.
-- There is none exactly where no walk leads to the goal, or the cell is the goal.
abbrev pub IsPreview : Setup → World → (kind : ℕ) → (from goal : CPos) → Option Route → Type 0
IsPreview setup w kind from goal found =
    IsRoute
    (land_of setup.map (blocks_of setup w.actors) (costs_in (kind_of setup.rules kind).mobile) goal)
    from found
