-- Proofs about the direction in which an actor goes to a cell, and the cell that it enters.
use Rattle.std.specs.Prelude.{◌≡◌, ◌≢◌, ℕ, zero, suc, ◌+◌, ◌*◌, ◌%◌, ◌==◌, ◌<◌, ◌&&◌, ◌||◌, not}
use Rattle.std.specs.Prelude.{nat_lt, Bool, true, false, if◌then◌else◌, List, [], ◌∷◌, Option, Some}
use Rattle.std.specs.Prelude.{None, refl, map}
use Rattle.std.specs.List.{All, find, list_any}
use Rattle.std.proofs.Common.{sym, ◌∙◌, subst, arith}
use Rattle.std.proofs.lemmas.Bool.{ltb-true, and_parts, or_parts, false≢true}
use Rattle.std.proofs.lemmas.List.Elements.{All-nil, All-cons, All-from_recursion}
use Rattle.world_units.specs.declared.direction.TheConstants.{DIRECTIONS}
use Rattle.world_units.specs.declared.cell.CPos.{CPos}
use Rattle.world_units.specs.Cells.{same_cell}
use Rattle.world_units.specs.Directions.{step_of}
use Rattle.world_units.specs.CellEquality.{cell_decides}
use Rattle.rule_traits.specs.declared.kind.Kind.{Kind}
use Rattle.game_model.specs.declared.actor.Actor.{Actor}
use Rattle.game_model.specs.declared.map.Map.{Map}
use Rattle.game_model.specs.declared.terrain.Terrain.{Terrain}
use Rattle.game_model.specs.BestDirection.{best_dir_of, by_step_cost, by_step, directions, distance_of}
use Rattle.game_model.specs.BestDirection.{is_cost, leads_on}
use Rattle.game_model.specs.Grid.{Grid, IsOn, is_on, at_cell}
use Rattle.game_model.specs.Setup.{Setup}
use Rattle.game_model.specs.ValidMap.{IsMapFor}
use Rattle.game_model.specs.Walks.{Land, cost_at, step_cost_of, holds, is_free, land_of, entry_cost_of}
use Rattle.game_model.specs.World.{is_occupied}
use Rattle.game_model.specs.Kinds.{costs_in}
use Rattle.game_tick.proofs.ChangesLemmas.{All-found, found_in}

-- The direction is one of the eight, and where it leads on the map can be entered.
pub record IsWay (map : Map) (p : CPos) (d : ℕ) : Type 0 where
  pub direction : d < DIRECTIONS
  pub enters : (q : CPos) → step_of p d ≡ Some q → IsOn map.width map.height q

step_cost_needs_entry_cost :
    (even free : Bool) (entry_cost : ℕ) →
    0 < (if even then 5 * entry_cost else (if free then 7 * entry_cost else 0)) → 0 < entry_cost
step_cost_needs_entry_cost true free entry_cost more = omega arith
step_cost_needs_entry_cost false true entry_cost more = omega arith
step_cost_needs_entry_cost false false entry_cost more = absurd (omega arith)

entry_cost_of_step_cost : (entry_cost : CPos → ℕ) (p : CPos) (d : ℕ) (q : CPos) → 0 < step_cost_of entry_cost p d q → 0 < entry_cost q
unfolding step_cost_of
entry_cost_of_step_cost entry_cost p d q more =
    step_cost_needs_entry_cost (d % 2 == 0)
    (is_free entry_cost (step_of p ((d + 1) % 8)) && is_free entry_cost (step_of p ((d + 7) % 8))) (entry_cost q) more

cost_needs_step_cost :
    (step_cost : ℕ) (rest here : Option ℕ) → is_cost (by_step_cost step_cost rest) here ≡ true → 0 < step_cost
cost_needs_step_cost zero rest here is = absurd cc
cost_needs_step_cost (suc less) rest here is = omega arith

cost_needs_entry_cost :
    (land : Land) (rest : CPos → Option ℕ) (p : CPos) (d : ℕ) (to : Option CPos) (here : Option ℕ)
    (q : CPos) → to ≡ Some q →
    is_cost (by_step land rest p d to) here ≡ true → 0 < land.entry_cost q
cost_needs_entry_cost land rest p d (Some r) here q same is =
    let at : r ≡ q = grind arith in
    subst (λ s. 0 < land.entry_cost s) at
    (entry_cost_of_step_cost land.entry_cost p d r (cost_needs_step_cost (step_cost_of land.entry_cost p d r) (rest r) here is))
cost_needs_entry_cost land rest p d None here q same is = absurd cc

directions_below : All (λ d. d < DIRECTIONS) directions
directions_below =
    All-from_recursion (λ d. d < DIRECTIONS) directions (
      omega arith,
      (
        omega arith,
        (
          omega arith,
          (omega arith, (omega arith, (omega arith, (omega arith, (omega arith, tt))))),
        ),
      ),
    )

pub find_passes :
    {X : Type 0} (test : X → Bool) (xs : List X) (y : X) → find test xs ≡ Some y → test y ≡ true
find_passes test xs y found =
    let (k, within, at, passes) = found_in test xs y found in
    passes

-- Where a direction of least cost leads can be entered.
best_by :
    (here : Bool) (map : Map) (land : Land) (p : CPos) (d : ℕ) →
    (if here then None else find (leads_on map land p) directions) ≡ Some d →
    (d < DIRECTIONS) × ((q : CPos) → step_of p d ≡ Some q → 0 < land.entry_cost q)
best_by true map land p d found = absurd cc
best_by false map land p d found =
    let passes : leads_on map land p d ≡ true =
    find_passes (leads_on map land p) directions d found in (
      All-found (λ e. e < DIRECTIONS) (leads_on map land p) directions d directions_below found,
      λ q to.
          cost_needs_entry_cost land (distance_of map land) p d (step_of p d) (distance_of map land p) q
          to
          passes,
    )

best_enters :
    (map : Map) (land : Land) (p : CPos) (d : ℕ) → best_dir_of map land p ≡ Some d →
    (d < DIRECTIONS) × ((q : CPos) → step_of p d ≡ Some q → 0 < land.entry_cost q)
unfolding best_dir_of
best_enters map land p d found = best_by (same_cell p land.goal) map land p d found

entry_cost_needs_map :
    (here able : Bool) (cost : ℕ) → 0 < (if here && able then cost else 0) → here ≡ true
entry_cost_needs_map true able cost more = refl
entry_cost_needs_map false able cost more = absurd (omega arith)

pub entry_cost_on_map :
    (terrain : Grid Terrain) (built : Grid Bool) (kind : Kind) (goal p : CPos) →
    0 < entry_cost_of terrain built (costs_in kind.mobile) goal p →
    is_on terrain.width terrain.height p ≡ true
unfolding entry_cost_of
entry_cost_on_map terrain built kind goal p more =
    entry_cost_needs_map (is_on terrain.width terrain.height p)
    (same_cell p goal || not (holds (at_cell built p)))
    (cost_at (costs_in kind.mobile) (at_cell terrain p)) more

pub on_from_test : (width height : ℕ) (p : CPos) → is_on width height p ≡ true → IsOn width height p
on_from_test width height p is =
    let parts = and_parts (nat_lt p.x width) (nat_lt p.y height) is in
    record { column = ltb-true p.x width parts.0; row = ltb-true p.y height parts.1 }

pub best_is_way :
    (setup : Setup) (built : Grid Bool) (kind : Kind) (p goal : CPos) (d : ℕ) →
    IsMapFor setup.rules setup.map →
    best_dir_of setup.map (land_of setup.map built (costs_in kind.mobile) goal) p ≡ Some d →
    IsWay setup.map p d
best_is_way setup built kind p goal d map found =
    let (within, enters) =
    best_enters setup.map (land_of setup.map built (costs_in kind.mobile) goal) p d found in
    record {
      direction = within;
      enters =
          λ q to.
          let on =
          on_from_test setup.map.terrain.width setup.map.terrain.height q
          (entry_cost_on_map setup.map.terrain built kind goal q (enters q to)) in
          record {
            column = omega (arith, on.column, map.terrain.width);
            row = omega (arith, on.row, map.terrain.height);
          };
    }

none_passes :
    {X : Type 0} (test : X → Bool) (xs : List X) → list_any test xs ≡ false →
    All (λ x. test x ≡ false) xs
none_passes test [] none = All-nil (λ x. test x ≡ false)
none_passes test (x ∷ xs) none =
    let parts = or_parts (test x) (list_any test xs) none in
    All-cons (λ y. test y ≡ false) x xs parts.0 (none_passes test xs parts.1)

-- Nobody holds a cell that is not occupied.
pub free_cell :
    (actors : List Actor) (p : CPos) → is_occupied actors p ≡ false →
    All (λ (b : Actor). b.cell ≢ p) actors
free_cell actors p none = λ k d within same.
    let tested = none_passes (λ (b : Actor). same_cell b.cell p) actors none k d within in
    false≢true (sym tested ∙ (cell_decides _ p).1 same)
