-- The neighbours of a cell of a map, with their places.
use Rattle.std.specs.Prelude.{◌≡◌, ℕ, Option, Some, None}
use Rattle.world_units.specs.declared.cell.CPos.{CPos}
use Rattle.world_units.specs.Directions.{step_of}
use Rattle.game_model.specs.Grid.{IsOn, place_of}
use Rattle.grid_routes.specs.declared.beside.Placed.{Placed}

-- A cell of the map, at its place.
pub record IsPlaced (width height : ℕ) (n : Placed) : Type 0 where
  pub on : IsOn width height n.cell
  pub at : n.at ≡ place_of width n.cell

-- The neighbour of a cell in direction d at its place, or none where it isn't on the map.
pub record IsBeside (width height : ℕ) (q : CPos) (d : ℕ) (n : Option Placed) : Type 0 where
  pub some :
      (k : Placed) → n ≡ Some k → (step_of q d ≡ Some k.cell) × IsPlaced width height k
  pub none : n ≡ None → (p : CPos) → step_of q d ≡ Some p → IsOn width height p → ⊥
