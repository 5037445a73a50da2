-- How many of the kept actors see each cell.
use Rattle.std.specs.Prelude.{◌≡◌, ℕ, ◌+◌, ◌*◌, ◌<◌, ◌≤◌, nat_lt, ◌||◌, Bool, true, false, List, length}
use Rattle.std.specs.List.{count_by, list_any}
use Rattle.world_units.specs.declared.cell.CPos.{CPos}
use Rattle.rule_traits.specs.declared.kind.Kind.{Kind}
use Rattle.game_model.specs.declared.limits.TheConstants.{MAX_ACTORS}
use Rattle.game_model.specs.Grid.{Grid}
use Rattle.shroud.specs.declared.viewer.Viewer.{Viewer}
use Rattle.shroud.specs.Grids.{grids_of}
use Rattle.shroud.specs.ShroudState.{ShroudState}
use Rattle.shroud.specs.Spots.{cell_in, client_at, place_in, spot_at, SpotState}
use Rattle.shroud.specs.Viewers.{views, Lists}

pub record TallyState : Type 0 where
  pub rules : List Kind
  pub spots : SpotState
  pub lists : Lists

-- The actor sees the cell at a place.
abbrev pub views_at : List Kind → (width height place : ℕ) → Viewer → Bool
views_at rules width height place v =
    views rules (client_at width height place) (cell_in width height place) v

-- One of these actors does.
abbrev pub any_views : TallyState → (place : ℕ) → List Viewer → Bool
any_views t place vs = list_any (views_at t.rules t.spots.width t.spots.height place) vs

-- How many of these actors do.
abbrev pub count_views : TallyState → (place : ℕ) → List Viewer → ℕ
count_views t place vs = count_by (views_at t.rules t.spots.width t.spots.height place) vs

-- There is a spot for each cell of each client, and there is room for all actors. The count of a
-- cell is the number of those, in both lists, that see it, and what is seen is explored.
pub record IsTally (t : TallyState) : Type 0 where
  pub whole : length t.spots.cells ≡ (t.spots.clients * t.spots.height) * t.spots.width
  pub few_left : length t.lists.left ≤ MAX_ACTORS
  pub few_fresh : length t.lists.fresh ≤ MAX_ACTORS
  pub counts :
      (place : ℕ) → place < length t.spots.cells →
      (spot_at t.spots.cells place).count
      ≡ count_views t place t.lists.fresh + count_views t place t.lists.left
  pub known_left :
      (place : ℕ) → place < length t.spots.cells → any_views t place t.lists.left ≡ true →
      (spot_at t.spots.cells place).explored ≡ true
  pub known_fresh :
      (place : ℕ) → place < length t.spots.cells → any_views t place t.lists.fresh ≡ true →
      (spot_at t.spots.cells place).explored ≡ true

-- The tally has come to this from another, and of all places those that pass the test were
-- explored.
pub record IsFollowed (seen : ℕ → Bool) (old new : TallyState) : Type 0 where
  pub rules : new.rules ≡ old.rules
  pub width : new.spots.width ≡ old.spots.width
  pub height : new.spots.height ≡ old.spots.height
  pub clients : new.spots.clients ≡ old.spots.clients
  pub size : length new.spots.cells ≡ length old.spots.cells
  pub explored :
      (place : ℕ) → place < length old.spots.cells →
      (spot_at new.spots.cells place).explored
      ≡ (spot_at old.spots.cells place).explored || seen place

-- No place.
abbrev pub no_place : ℕ → Bool
no_place place = false

-- Client c sees the cell, and has explored it, by what is kept of the cells.
abbrev pub is_counted : SpotState → (c : ℕ) → CPos → Bool
is_counted s c p = nat_lt 0 (spot_at s.cells (place_in s.width s.height c p)).count

abbrev pub is_marked : SpotState → (c : ℕ) → CPos → Bool
is_marked s c p = (spot_at s.cells (place_in s.width s.height c p)).explored

abbrev pub seen_in : SpotState → List (Grid Bool)
seen_in s = grids_of s.width s.height s.clients (is_counted s)

abbrev pub explored_in : SpotState → List (Grid Bool)
explored_in s = grids_of s.width s.height s.clients (is_marked s)

-- The shroud of a tally, by which so many actors were counted.
abbrev pub shroud_of : TallyState → (touched : ℕ) → ShroudState
shroud_of t touched =
    record {
      rules = t.rules;
      width = t.spots.width;
      height = t.spots.height;
      clients = t.spots.clients;
      seen = seen_in t.spots;
      explored = explored_in t.spots;
      touched = touched;
    }
