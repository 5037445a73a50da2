-- One character of a row, and what setting a row leaves as it was.
use Rattle.std.proofs.Common.{◌≡◌, ℕ, ◌+◌, ◌-◌, ◌*◌, ◌<◌, ◌≤◌, ◌==◌, nat_le, ◌&&◌, Bool, true, false, cond, List, [], ◌∷◌}
use Rattle.std.proofs.Common.{length, drop, get_or, refl, sym, ap, ◌∙◌, Option, Some, None, Result, Err, arith, codes}
use Rattle.std.proofs.lemmas.Bool.Decides.{nat_tests}
use Rattle.std.proofs.lemmas.List.{drop_more, length-replicate, length-set}
use Rattle.std.proofs.lemmas.List.Elements.{All-set, All-replicate}
use Rattle.std.specs.List.{All}
use Rattle.std.specs.Option.{IfSome}
use Rattle.std.specs.Result.{IfOk}
use Rattle.std.specs.Str.{chars}
use Rattle.base.specs.Steps.{◌>>=◌}
use Rattle.yaml_lines.specs.declared.place.Place.{Place}
use Rattle.yaml_lines.specs.Trees.{Trees}
use Rattle.game_model.specs.Grid.{Grid, place_of, with_cell}
use Rattle.game_model.specs.declared.limits.TheConstants.{MAX_ORE}
use Rattle.game_model.specs.declared.terrain.Terrain.{Terrain}
use Rattle.game_model.specs.declared.terrain.Terrain.TheVariants.{Clear}
use Rattle.map_grid.specs.declared.fault.MapFault.{MapFault}
use Rattle.map_grid.specs.declared.fault.MapFault.TheVariants.{BadRow, UnknownTerrain}
use Rattle.map_grid.specs.Fields.{field, below}
use Rattle.map_grid.specs.Rows.{cell_set, cells_set, full_row, plain_grid, row_of, terrain_of, ore_of}
use Rattle.map_grid.specs.Rows.{tiles_taken, ore_taken, tiles_of, ore_grid}
use Rattle.map_grid.proofs.OutcomeLemmas.{either, followed, any_outcome, each_keeps}

cells_at : {T : Type 0} (value_of : ℕ → Option T) (fault : MapFault) (y : ℕ) (row : List ℕ) (x c : ℕ) (grid : Grid T) → x < length row → c ≡ get_or row x c →
    cells_set value_of fault x y (drop x row) grid ≡ (cell_set fault x y grid (value_of c) >>= λ next. cells_set value_of fault (x + 1) y (drop (x + 1) row) next)
cells_at value_of fault y row x c grid h n =
    ap (λ l. cells_set value_of fault x y l grid) (drop_more row x c h)
    ∙ sym (ap (λ d. cell_set fault x y grid (value_of d) >>= λ next. cells_set value_of fault (x + 1) y (drop (x + 1) row) next) n)

-- A character that says a value.
pub cells_next : {T : Type 0} (value_of : ℕ → Option T) (fault : MapFault) (y : ℕ) (row : List ℕ) (x c : ℕ) (grid : Grid T) (value : T) (all : Result (Grid T) MapFault) →
    x < length row → c ≡ get_or row x c → value_of c ≡ Some value →
    cells_set value_of fault x y (drop x row) grid ≡ all →
    cells_set value_of fault (x + 1) y (drop (x + 1) row) (with_cell grid (record { x = x; y = y }) value) ≡ all
cells_next {T} value_of fault y row x c grid value all h n v e =
    let rest : Option T → Result (Grid T) MapFault = λ o. cell_set fault x y grid o >>= λ next. cells_set value_of fault (x + 1) y (drop (x + 1) row) next in
    sym (cells_at value_of fault y row x c grid h n ∙ ap rest v) ∙ e

-- A character that says nothing.
pub cells_fault : {T : Type 0} (value_of : ℕ → Option T) (fault : MapFault) (y : ℕ) (row : List ℕ) (x c : ℕ) (grid : Grid T) (all : Result (Grid T) MapFault) →
    x < length row → c ≡ get_or row x c → value_of c ≡ None →
    cells_set value_of fault x y (drop x row) grid ≡ all → all ≡ Err fault
cells_fault {T} value_of fault y row x c grid all h n v e =
    let rest : Option T → Result (Grid T) MapFault = λ o. cell_set fault x y grid o >>= λ next. cells_set value_of fault (x + 1) y (drop (x + 1) row) next in
    sym e ∙ cells_at value_of fault y row x c grid h n ∙ ap rest v

pub ruleset row_steps = (cells_next, cells_fault)

-- A grid of this size, with this of each cell.
pub record Kept {T : Type 0} (w h : ℕ) (P : T → Type 0) (grid : Grid T) : Type 0 where
  pub width : grid.width ≡ w
  pub height : grid.height ≡ h
  pub cells : length grid.cells ≡ w * h
  pub each : All P grid.cells

cell_keeps : {T : Type 0} (w h : ℕ) (P : T → Type 0) (fault : MapFault) (x y : ℕ) (grid : Grid T) (o : Option T) → IfSome o P → Kept w h P grid → IfOk (cell_set fault x y grid o) (Kept w h P)
cell_keeps w h P fault x y grid None v k = tt
cell_keeps w h P fault x y grid (Some value) v k =
    let at = place_of grid.width (record { x = x; y = y }) in
    record {
      width = k.width;
      height = k.height;
      cells = length-set grid.cells at value ∙ k.cells;
      each = All-set P grid.cells at value v k.each;
    }

pub cells_keep : {T : Type 0} (w h : ℕ) (P : T → Type 0) (value_of : ℕ → Option T) → ((c : ℕ) → IfSome (value_of c) P) →
    (fault : MapFault) (x y : ℕ) (row : List ℕ) (grid : Grid T) → Kept w h P grid → IfOk (cells_set value_of fault x y row grid) (Kept w h P)
cells_keep w h P value_of says fault x y [] grid k = k
cells_keep w h P value_of says fault x y (c ∷ rest) grid k =
    followed (Kept w h P) (Kept w h P) (cell_set fault x y grid (value_of c)) (λ next. cells_set value_of fault (x + 1) y rest next)
    (cell_keeps w h P fault x y grid (value_of c) (says c) k)
    (λ next n. cells_keep w h P value_of says fault (x + 1) y rest next n)

row_keeps : {T : Type 0} (w h : ℕ) (P : T → Type 0) (value_of : ℕ → Option T) → ((c : ℕ) → IfSome (value_of c) P) →
    (fault : MapFault) (place : Place) (y : ℕ) (row : List ℕ) (grid : Grid T) → Kept w h P grid → IfOk (full_row value_of fault place y row grid) (Kept w h P)
row_keeps w h P value_of says fault place y row grid k =
    either (Kept w h P) (length row == grid.width) (cells_set value_of fault 0 y row grid) (Err (BadRow place))
    (cells_keep w h P value_of says fault 0 y row grid k) tt

plain_keeps : {T : Type 0} (w h : ℕ) (P : T → Type 0) (value : T) → P value → Kept w h P (plain_grid w h value)
plain_keeps w h P value v =
    record { width = refl; height = refl; cells = length-replicate (w * h) value; each = All-replicate P (w * h) value v }

abbrev pub Anything : Terrain → Type 0
Anything t = Unit {0}

pub any_terrain : (o : Option Terrain) → IfSome o Anything
any_terrain None = tt
any_terrain (Some t) = tt

abbrev pub IsLittle : ℕ → Type 0
IsLittle n = n ≤ MAX_ORE

little : (c : ℕ) (test : Bool) → (test ≡ true → IsLittle (10 * (c - 48))) → IfSome (cond test (Some (10 * (c - 48))) None) IsLittle
little c true h = h refl
little c false h = tt

none_or : (test : Bool) (o : Option ℕ) → IfSome o IsLittle → IfSome (cond test (Some 0) o) IsLittle
none_or true o h = omega arith
none_or false o h = h

ore_little : (c : ℕ) → IfSome (ore_of c) IsLittle
ore_little c =
    none_or (c == 46) (cond (nat_le 48 c && nat_le c 57) (Some (10 * (c - 48))) None)
    (little c (nat_le 48 c && nat_le c 57) (λ t. let most : c ≤ 57 = grind (arith, nat_tests) in omega (arith, most)))

tile_keeps : (w h : ℕ) (grid : Grid Terrain) (key value : List ℕ) (place : Place) (children : Trees) → Kept w h Anything grid → IfOk (tiles_taken grid key value place children) (Kept w h Anything)
unfolding tiles_taken
tile_keeps w h grid key value place children k =
    followed (λ _. Unit {0}) (Kept w h Anything) (row_of grid.height key place) (λ y. full_row terrain_of (UnknownTerrain place) place y (chars value) grid)
    (any_outcome (row_of grid.height key place))
    (λ y _. row_keeps w h Anything terrain_of (λ c. any_terrain (terrain_of c)) (UnknownTerrain place) place y (chars value) grid k)

ore_row_keeps : (w h : ℕ) (grid : Grid ℕ) (key value : List ℕ) (place : Place) (children : Trees) → Kept w h IsLittle grid → IfOk (ore_taken grid key value place children) (Kept w h IsLittle)
unfolding ore_taken
ore_row_keeps w h grid key value place children k =
    followed (λ _. Unit {0}) (Kept w h IsLittle) (row_of grid.height key place) (λ y. full_row ore_of (BadRow place) place y (chars value) grid)
    (any_outcome (row_of grid.height key place))
    (λ y _. row_keeps w h IsLittle ore_of ore_little (BadRow place) place y (chars value) grid k)

pub tiles_keep : (w h : ℕ) (top : Trees) → IfOk (tiles_of w h top) (Kept w h Anything)
unfolding tiles_of
tiles_keep w h top =
    each_keeps (Kept w h Anything) tiles_taken (tile_keeps w h) (plain_grid w h Clear) (below (field (codes "Tiles") top)) (plain_keeps w h Anything Clear tt)

pub ore_keeps : (w h : ℕ) (top : Trees) → IfOk (ore_grid w h top) (Kept w h IsLittle)
unfolding ore_grid
ore_keeps w h top =
    each_keeps (Kept w h IsLittle) ore_taken (ore_row_keeps w h) (plain_grid w h 0) (below (field (codes "Ore") top)) (plain_keeps w h IsLittle 0 (omega arith))
