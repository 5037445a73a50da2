-- What a field of distances promises: labels of cells, right for a search that may go on.
use Rattle.std.specs.Prelude.{◌≡◌, ℕ, ◌+◌, ◌*◌, ◌<◌, ◌≤◌, nat_lt, not, List, length, replicate}
use Rattle.std.specs.Prelude.{Option, None}
use Rattle.std.specs.List.{count_by}
use Rattle.world_units.specs.declared.cell.CPos.{CPos}
use Rattle.game_model.specs.Grid.{Grid, IsOn, with_cell}
use Rattle.grid_routes.specs.declared.field.TheConstants.{NONE}
use Rattle.grid_routes.specs.declared.reach.Reach.{Reach}
use Rattle.grid_routes.specs.Reach.{IsReached}
use Rattle.grid_routes.specs.Values.{value_in}
use Rattle.game_model.specs.Walks.{Land, IsStep, IsWalk}

-- The labels of a map, the level up to which they are final, and how far the search goes.
pub record Distances : Type 0 where
  pub labels : Grid ℕ
  pub level : ℕ
  pub reach : Option Reach

-- There is a number for each cell, and the sides fit a byte.
pub record IsFull (grid : Grid ℕ) : Type 0 where
  pub size : length grid.cells ≡ grid.width * grid.height
  pub wide : grid.width < 256
  pub high : grid.height < 256

-- The label of a cell. Off the map there is none.
abbrev pub label_of : Grid ℕ → CPos → ℕ
label_of labels p = value_in NONE labels p

-- The field of a search that begins: the goal alone has a label.
abbrev pub begun : Distances → CPos → Option Reach → Distances
begun field goal reach =
    let none : Grid ℕ = record field.labels { cells = replicate (length field.labels.cells) NONE }
    in
    record { labels = with_cell none goal 0; level = 0; reach = reach }

-- How many cells have a label from the level on, or none.
unfoldable pub open_count : ℕ → Grid ℕ → ℕ
open_count level labels = count_by (λ l. not (nat_lt l level)) labels.cells

-- Labels that a search from the goal made, up to a level.
pub record IsRight (land : Land) (field : Distances) : Type 0 where
  -- The goal is there.
  pub goal : label_of field.labels land.goal ≡ 0
  -- A label is the cost of some walk.
  pub walks :
      (p : CPos) → label_of field.labels p < NONE →
      (cells : List CPos) × IsWalk land p cells (label_of field.labels p)
  -- Each step into a cell below the level was offered, if the search goes on from it.
  pub closed :
      (p q : CPos) (d k : ℕ) → IsOn field.labels.width field.labels.height p →
      IsStep land.entry_cost p d q k →
      label_of field.labels q < field.level → IsReached field.reach q (label_of field.labels q) →
      label_of field.labels p ≤ label_of field.labels q + k
  -- Labels are at most a step above the level, and far below `NONE`.
  pub near : (p : CPos) → label_of field.labels p < NONE →
      label_of field.labels p < field.level + 71
  pub small :
      (p : CPos) → label_of field.labels p < NONE →
      label_of field.labels p < 71 * length field.labels.cells + 71
  -- The level has risen only as far as cells were settled.
  pub rises :
      field.level < NONE →
      field.level + 71 * open_count field.level field.labels ≤ 71 * length field.labels.cells

-- The label of a cell is final: the search is past it, and goes over all walks that may be as good.
pub record IsFinalLabel (field : Distances) (p : CPos) : Type 0 where
  pub low : label_of field.labels p ≤ field.level
  pub reached : IsReached field.reach p (label_of field.labels p)
  -- That there is no walk is only told by a search that goes everywhere.
  pub everywhere : NONE ≤ label_of field.labels p → field.reach ≡ None
