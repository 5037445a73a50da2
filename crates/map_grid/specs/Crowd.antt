-- The actors read so far, and the cells that they have.
use Rattle.std.specs.Prelude.{◌≡◌, ℕ, List, [], ◌∷◌, ◌++◌, Bool, Some}
use Rattle.world_units.specs.declared.cell.CPos.{CPos}
use Rattle.game_model.specs.Grid.{Grid, IsOn, IsWhole, at_cell}
use Rattle.game_model.specs.declared.map.Start.{Start}
use Rattle.map_grid.specs.Starts.{has_cell}

-- Actors on a map of this size.
pub record Placed : Type 0 where
  pub width : ℕ
  pub height : ℕ
  pub starts : List Start

abbrev pub nobody : (width height : ℕ) → Placed
nobody width height = record { width = width; height = height; starts = [] }

-- The actors, and one more after them.
abbrev pub with_start : Placed → Start → Placed
with_start crowd start = record crowd { starts = crowd.starts ++ start ∷ [] }

-- The flag of each cell of the map says whether one of these actors has it.
pub record AreMarked (starts : List Start) (taken : Grid Bool) : Type 0 where
  pub whole : IsWhole taken
  pub marks :
      (cell : CPos) → IsOn taken.width taken.height cell →
      at_cell taken cell ≡ Some (has_cell starts cell)
