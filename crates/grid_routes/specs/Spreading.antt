-- How a cell is expanded over the labels and the cells of the buckets as lists of their own.
use Rattle.std.specs.Prelude.{◌≡◌, ℕ, ◌+◌, ◌*◌, ◌<◌, ◌≤◌, ◌&&◌, nat_lt, if◌then◌else◌, Bool, List, Option, None}
use Rattle.std.specs.Prelude.{slice_set}
use Rattle.world_units.specs.declared.cell.CPos.{CPos}
use Rattle.game_model.specs.Grid.{Grid, IsOn}
use Rattle.grid_routes.specs.declared.beside.Placed.{Placed}
use Rattle.grid_routes.specs.declared.offers.Offers.{Offers}
use Rattle.grid_routes.specs.Beside.{IsBeside}
use Rattle.grid_routes.specs.StepCosts.{AreStepCosts, IsStepCostFrom, step_costs_by}
use Rattle.grid_routes.specs.Labels.{Distances, label_of}
use Rattle.grid_routes.specs.Held.{Shelves, IsWhole, len_of}
use Rattle.grid_routes.specs.Steps.{IsExpanded, Lowers}

-- The labels of a map of this size.
abbrev pub grid_of : (width height : ℕ) → List ℕ → Grid ℕ
grid_of width height labels = record { width = width; height = height; cells = labels }

-- The same as a field.
abbrev pub field_of : (width height : ℕ) → List ℕ → Distances
field_of width height labels = record { labels = grid_of width height labels; level = 0; reach = None }

-- Whether a label is given to a cell that had another one.
abbrev pub is_given : Bool → (label last : ℕ) → Bool
is_given allowed label last = allowed && nat_lt label last

-- The label of a cell that was offered one.
abbrev pub given_label : Bool → (label last : ℕ) → ℕ
given_label allowed label last = if is_given allowed label last then label else last

-- Buckets with other cells, and another count of the cells of one of them.
abbrev pub with_bucket : Shelves → (b : ℕ) → List CPos → ℕ → Shelves
with_bucket shelves b cells len = record shelves { cells = cells; lens = slice_set shelves.lens b len }

-- The buckets have these cells, and one of them holds so many.
pub record HoldsIn (shelves : Shelves) (b : ℕ) (cells : List CPos) (len : ℕ) : Type 0 where
  pub whole : IsWhole shelves
  pub same : shelves.cells ≡ cells
  pub count : len_of shelves b ≡ len

-- The neighbour of q in direction d is offered this label, by a step into q where that is allowed.
pub record IsOfferTo (entry_cost : CPos → ℕ) (labels : Grid ℕ) (q : CPos) (d level : ℕ)
    (n : Option Placed) (allowed : Bool) (label : ℕ) : Type 0 where
  pub direction : d < 8
  pub on : IsOn labels.width labels.height q
  pub from : label_of labels q ≡ level
  pub cost : ℕ
  pub some : 0 < cost
  pub labelled : label ≡ level + cost
  pub step : IsStepCostFrom entry_cost q d (if allowed then cost else 0)
  pub beside : IsBeside labels.width labels.height q d n

-- What a cell of this level offers its neighbours.
pub record AreOffers (entry_cost : CPos → ℕ) (q : CPos) (level : ℕ) (offers : Offers) : Type 0 where
  pub cost : ℕ
  pub some : 0 < cost
  pub cheap : cost ≤ 10
  pub straight : offers.straight ≡ level + 5 * cost
  pub across : offers.across ≡ level + 7 * cost
  pub step_costs : AreStepCosts entry_cost q (step_costs_by cost offers.corners)

-- A cell of this level was expanded.
pub record IsSpread (entry_cost : CPos → ℕ) (q : CPos) (level : ℕ) (old : Grid ℕ) (before : Shelves)
    (new : Grid ℕ) (after : Shelves) : Type 0 where
  pub lowers : Lowers entry_cost level old before new after
  pub done : IsExpanded entry_cost new level q
