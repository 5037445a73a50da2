-- What the steps of a search change.
use Rattle.std.specs.Prelude.{◌≡◌, ◌≢◌, ℕ, ◌+◌, ◌*◌, ◌%◌, ◌<◌, ◌≤◌, ◌⊎◌, true, false, length}
use Rattle.std.specs.Prelude.{nat_lt, suc, Option, Some, None}
use Rattle.std.specs.Prelude.{if◌then◌else◌}
use Rattle.world_units.specs.declared.cell.CPos.{CPos}
use Rattle.world_units.specs.Directions.{opposite_of, step_of}
use Rattle.game_model.specs.Grid.{Grid, IsOn, HasSize}
use Rattle.grid_routes.specs.declared.field.TheConstants.{NONE}
use Rattle.grid_routes.specs.declared.route.Route.{Route}
use Rattle.game_model.specs.Walks.{Land, HasNoWalk, IsBest, IsRouteOver, IsStep}
use Rattle.grid_routes.specs.Labels.{Distances, IsFull, IsRight, label_of, open_count}
use Rattle.grid_routes.specs.EntryCosts.{Ground}
use Rattle.grid_routes.specs.Held.{Shelves, IsAt, IsHeld, len_of}

-- A cell got a lower label by a step into a cell of this level, and went into its bucket.
pub record IsMade (entry_cost : CPos → ℕ) (level : ℕ) (old new : Grid ℕ) (after : Shelves)
    (p : CPos) : Type 0 where
  pub entered : CPos
  pub direction : ℕ
  pub cost : ℕ
  pub on : IsOn old.width old.height p
  pub step : IsStep entry_cost p direction entered cost
  pub cheap : cost ≤ 70
  pub from : label_of old entered ≡ level
  pub label : label_of new p ≡ level + cost
  pub lower : level + cost < label_of old p
  pub held : (after.lost ≡ true) ⊎ IsHeld after ((level + cost) % 71) p

-- From one state of labels and buckets to another, labels only fell, by steps into cells of this
-- level, whose own bucket stays as it is.
pub record Lowers (entry_cost : CPos → ℕ) (level : ℕ) (old : Grid ℕ) (before : Shelves) (new : Grid ℕ)
    (after : Shelves) : Type 0 where
  pub size : HasSize old.width old.height new
  pub cells : length new.cells ≡ length old.cells
  pub each : (p : CPos) → (label_of new p ≡ label_of old p) ⊎ IsMade entry_cost level old new after p
  pub count : open_count (level + 1) new ≡ open_count (level + 1) old
  pub kept : (b i : ℕ) (c : CPos) → IsAt before b i c → IsAt after b i c
  pub row : len_of after (level % 71) ≡ len_of before (level % 71)
  pub lost : before.lost ≡ true → after.lost ≡ true
  pub room : after.room ≡ before.room

-- The cell got this label and went into its bucket, or its label was no greater.
pub record IsRelaxed (old : Distances) (before : Shelves) (new : Distances) (after : Shelves)
    (p : CPos) (label : ℕ) : Type 0 where
  pub least : label_of new.labels p ≤ label
  pub same : new ≡ record old { labels = new.labels }
  -- What was at most this stays.
  pub stays :
      (c : CPos) → label_of old.labels c ≤ label →
      label_of new.labels c ≡ label_of old.labels c
  pub lowers :
      (entry_cost : CPos → ℕ) (n d k : ℕ) (q : CPos) → IsStep entry_cost p d q k → k ≤ 70 →
      label_of old.labels q ≡ n → label ≡ n + k →
      Lowers entry_cost n old.labels before new.labels after

-- The neighbour of q in direction d was offered the walk that enters q.
pub record IsOffered (entry_cost : CPos → ℕ) (q : CPos) (d level : ℕ) (old : Distances)
    (before : Shelves) (new : Distances) (after : Shelves) : Type 0 where
  pub same : new ≡ record old { labels = new.labels }
  pub lowers : Lowers entry_cost level old.labels before new.labels after
  pub done :
      (p : CPos) (k : ℕ) → step_of q d ≡ Some p →
      IsOn old.labels.width old.labels.height p → IsStep entry_cost p (opposite_of d) q k →
      label_of new.labels p ≤ level + k

-- Each cell from which a step enters q has at most the label by that step.
abbrev pub IsExpanded : (CPos → ℕ) → Grid ℕ → ℕ → CPos → Type 0
IsExpanded entry_cost labels level q =
    (p : CPos) (d k : ℕ) → IsOn labels.width labels.height p → IsStep entry_cost p d q k →
    label_of labels p ≤ level + k

-- Each cell with a label from the level on is in its bucket.
pub record AreQueued (field : Distances) (shelves : Shelves) : Type 0 where
  pub each :
      (p : CPos) → field.level ≤ label_of field.labels p → label_of field.labels p < NONE →
      IsHeld shelves (label_of field.labels p % 71) p

-- Only cells of the map can be entered, and no step costs more than 70.
pub record IsFair (entry_cost : CPos → ℕ) (width height : ℕ) : Type 0 where
  pub inside : (q : CPos) → 0 < entry_cost q → IsOn width height q
  pub cheap : (p q : CPos) (d k : ℕ) → IsStep entry_cost p d q k → k ≤ 70

-- A field that a search made and may take up again: its labels are right for the goal.
pub record IsGoing (land : Land) (field : Distances) : Type 0 where
  pub goal : IsOn field.labels.width field.labels.height land.goal
  pub full : IsFull field.labels
  pub fair : IsFair land.entry_cost field.labels.width field.labels.height
  pub right : IsRight land field

-- A search on its way: its labels are right, its sizes agree, and its buckets have what they must
-- unless they say that a cell may be missing.
pub record IsSearch (land : Land) (field : Distances) (shelves : Shelves) : Type 0 where
  pub goal : IsOn field.labels.width field.labels.height land.goal
  pub full : IsFull field.labels
  pub room : shelves.room ≡ length field.labels.cells
  pub fair : IsFair land.entry_cost field.labels.width field.labels.height
  pub right : IsRight land field
  pub queued : shelves.lost ≡ false → AreQueued field shelves

-- Some cell has this label.
pub record HasLabel (labels : Grid ℕ) (label : ℕ) : Type 0 where
  pub cell : CPos
  pub is : label_of labels cell ≡ label

-- No bucket has a cell whose label is the bucket's from the level on and below this.
pub record IsClear (field : Distances) (shelves : Shelves) (end : ℕ) : Type 0 where
  pub none :
      (j i : ℕ) (p : CPos) → field.level ≤ j → j < end → IsAt shelves (j % 71) i p →
      label_of field.labels p ≡ j → ⊥

-- The least label from the level on, as far as the buckets have them.
pub record IsNext (field : Distances) (shelves : Shelves) (label : ℕ) : Type 0 where
  pub from : field.level ≤ label
  pub near : label < field.level + 71
  pub cell : HasLabel field.labels label
  pub clear : IsClear field shelves label

-- How many rings may still come.
unfoldable pub rings_left : Distances → ℕ
rings_left field = if nat_lt field.level NONE then suc (open_count field.level field.labels) else 0

-- The cells of the rows above y, and those of row y before x, are in their buckets, and no bucket
-- has more cells than these are.
pub record IsFilled (field : Distances) (shelves : Shelves) (y x : ℕ) : Type 0 where
  pub whole : shelves.lost ≡ false
  pub few : (b : ℕ) → len_of shelves b ≤ y * field.labels.width + x
  pub above :
      (p : CPos) → p.y < y → field.level ≤ label_of field.labels p →
      label_of field.labels p < NONE →
      IsHeld shelves (label_of field.labels p % 71) p
  pub before :
      (p : CPos) → p.y ≡ y → p.x < x → field.level ≤ label_of field.labels p →
      label_of field.labels p < NONE → IsHeld shelves (label_of field.labels p % 71) p

-- The step in direction d enters a cell whose label is the distance less the step's cost.
pub record IsLead (entry_cost : CPos → ℕ) (labels : Grid ℕ) (p : CPos) (distance d : ℕ) : Type 0 where
  pub entered : CPos
  pub cost : ℕ
  pub step : IsStep entry_cost p d entered cost
  pub label : label_of labels entered + cost ≡ distance

-- The least such direction.
pub record IsLeastLead (entry_cost : CPos → ℕ) (labels : Grid ℕ) (p : CPos) (distance d : ℕ) : Type 0
  where
    pub leads : IsLead entry_cost labels p distance d
    pub least : (e : ℕ) → IsLead entry_cost labels p distance e → d ≤ e

-- All that a search keeps has the size of the map.
pub record FitsTogether (width height : ℕ) (ground : Ground) (field : Distances)
    (shelves : Shelves) : Type 0 where
  pub of_terrain : HasSize width height ground.terrain
  pub of_labels : HasSize width height field.labels
  pub room : shelves.room ≡ width * height

-- The best step from a cell enters q, whose label is less by what the step costs.
pub record IsOnward (land : Land) (labels : Grid ℕ) (p q : CPos) : Type 0 where
  pub direction : ℕ
  pub cost : ℕ
  pub step : IsStep land.entry_cost p direction q cost
  pub best : IsBest land p direction
  pub label : label_of labels q + cost ≡ label_of labels p

-- What is told of a route: it is none exactly where there is no walk or the cell is the goal.
abbrev pub IsRoute : Land → CPos → Option Route → Type 0
IsRoute land from (Some route) = (from ≢ land.goal) × IsRouteOver land from route.cost route.cells
IsRoute land from None = (from ≡ land.goal) ⊎ HasNoWalk land from
