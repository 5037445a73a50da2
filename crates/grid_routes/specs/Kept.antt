-- What is kept from one question to the next: fields of distances over one ground.
use Rattle.std.specs.Prelude.{◌≡◌, ℕ, ◌*◌, ◌<◌, All, IfSome, Bool, List, length}
use Rattle.std.specs.Prelude.{slice_index_or, Option, Some, None, ◌⊎◌, [], ◌∷◌, ◌++◌}
use Rattle.world_units.specs.declared.cell.CPos.{CPos}
use Rattle.game_model.specs.declared.terrain.Terrain.{Terrain}
use Rattle.game_model.specs.Grid.{Grid, HasSize, IsOn}
use Rattle.grid_routes.specs.EntryCosts.{land_over, entry_cost_in}
use Rattle.grid_routes.specs.Labels.{Distances, IsFinalLabel, begun}
use Rattle.grid_routes.specs.declared.ask.Ask.{Ask}
use Rattle.grid_routes.specs.declared.reach.Reach.{Reach}
use Rattle.grid_routes.specs.declared.fields.Kept.{Kept}
use Rattle.grid_routes.specs.declared.fields.Fields.{Fields}
use Rattle.grid_routes.specs.declared.search.Search.{Search}
use Rattle.grid_routes.specs.Steps.{IsGoing, IsSearch}

-- A kept field has the size of the map. If it belongs to a goal and costs, then a search for these
-- over this ground made it.
pub record IsKeptField (w h : ℕ) (terrain : Grid Terrain) (built : Grid Bool) (kept : Kept) : Type 0
  where
    pub size : HasSize w h kept.field.labels
    pub going :
        IfSome kept.ask (λ ask. IsGoing (land_over terrain built ask.costs ask.goal) kept.field)

-- Room for a field of this size.
pub record IsRoom (w h : ℕ) (kept : Kept) : Type 0 where
  pub size : HasSize w h kept.field.labels
  pub none : kept.ask ≡ None

-- The same fields, or these and room for one more.
abbrev pub IsWidened : (w h : ℕ) (old new : List Kept) → Type 0
IsWidened w h old new = (new ≡ old) ⊎ ((more : Kept) × IsRoom w h more × (new ≡ old ++ more ∷ []))

-- The search is on its way for this.
pub record IsFor (search : Search) (ask : Ask) : Type 0 where
  pub entry_costs : search.entry_costs ≡ record search.entry_costs { costs = ask.costs; goal = ask.goal }
  pub going :
      IsSearch (record { entry_cost = entry_cost_in search.entry_costs; goal = ask.goal }) search.field search.buckets

-- The search's field and buckets are those of a search for this over its ground, which may go on
-- once its entry costs are turned to this.
abbrev pub IsOwn : Search → Ask → Type 0
IsOwn search ask =
    IsSearch (land_over search.entry_costs.terrain search.entry_costs.built ask.costs ask.goal) search.field
    search.buckets

-- A search to this goal has just begun with the field.
abbrev pub IsBegun : CPos → Distances → Type 0
IsBegun goal field = (before : Distances) × (reach : Option Reach) × (field ≡ begun before goal reach)

-- The field belongs to this, and its label of the cell is final.
pub record IsFinal (ask : Ask) (p : CPos) (kept : Kept) : Type 0 where
  pub asked : kept.ask ≡ Some ask
  pub final : IsFinalLabel kept.field p

-- The cell is on the map, and its label is final.
pub record IsSettled (search : Search) (p : CPos) : Type 0 where
  pub on : IsOn search.field.labels.width search.field.labels.height p
  pub final : IsFinalLabel search.field p

-- All fields have the size of the map and are over the ground of the search.
pub record AreFields (w h : ℕ) (fields : Fields) : Type 0 where
  pub terrain : HasSize w h fields.search.entry_costs.terrain
  pub size : HasSize w h fields.search.field.labels
  pub room : fields.search.buckets.room ≡ w * h
  pub search : IfSome fields.ask (IsOwn fields.search)
  pub kept : All (IsKeptField w h fields.search.entry_costs.terrain fields.search.entry_costs.built)
      fields.kept.items
  pub place : fields.place < length fields.kept.items

-- The ground stays.
pub record IsSameGround (old new : Fields) : Type 0 where
  pub terrain : new.search.entry_costs.terrain ≡ old.search.entry_costs.terrain
  pub built : new.search.entry_costs.built ≡ old.search.entry_costs.built

-- The first so many fields belong to nothing now, and all stay what they are.
pub record AreForgotten (old new : List Kept) (count : ℕ) : Type 0 where
  pub same : length new ≡ length old
  pub fields :
      (i : ℕ) (d : Kept) → i < length old →
      (slice_index_or new i d).field ≡ (slice_index_or old i d).field
  pub none : (i : ℕ) (d : Kept) → i < count → (slice_index_or new i d).ask ≡ None
