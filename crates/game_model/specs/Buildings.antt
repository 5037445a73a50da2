-- Which actors are buildings, the cells that they block, and the neighbours of a cell.
use Rattle.std.specs.Prelude.{◌≡◌, ◌&&◌, ℕ, Bool, false, List, Option, Some, None, if◌then◌else◌}
use Rattle.std.specs.List.{list_any}
use Rattle.world_units.specs.declared.cell.CPos.{CPos}
use Rattle.world_units.specs.Cells.{same_cell}
use Rattle.world_units.specs.Directions.{step_of}
use Rattle.rule_traits.specs.declared.kind.Kind.{Kind}
use Rattle.rule_traits.specs.Rules.{kind_at}
use Rattle.game_model.specs.declared.actor.Actor.{Actor}
use Rattle.game_model.specs.Grid.{Grid, IsOn, at_cell, is_on}

abbrev pub building_in : Option Kind → Bool
building_in (Some kind) = kind.building
building_in None = false

-- The actor is a building.
abbrev pub is_building : List Kind → Actor → Bool
is_building rules a = building_in (kind_at rules a.kind)

-- A building of the list, with health or without, has the cell.
abbrev pub has_building : List Kind → List Actor → CPos → Bool
has_building rules actors p =
    list_any (λ (a : Actor). is_building rules a && same_cell a.cell p) actors

-- The flags say of each cell whether a building has it.
pub record AreBlocks (rules : List Kind) (actors : List Actor) (blocks : Grid Bool) : Type 0 where
  pub each :
      (p : CPos) → IsOn blocks.width blocks.height p →
      at_cell blocks p ≡ Some (has_building rules actors p)

-- The cell, where it is on a map of this size.
abbrev pub if_on : (width height : ℕ) → Option CPos → Option CPos
if_on width height (Some p) = if is_on width height p then Some p else None
if_on width height None = None

-- The neighbour of a cell in a direction, where it is on a map of this size.
abbrev pub neighbour_of : (width height : ℕ) → CPos → (d : ℕ) → Option CPos
neighbour_of width height p d = if_on width height (step_of p d)
