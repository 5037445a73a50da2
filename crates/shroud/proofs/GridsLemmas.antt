-- The flags of grids that were made by a test.
use Rattle.std.specs.Prelude.{◌≡◌, ℕ, zero, suc, ◌*◌, ◌<◌, Bool, false, List, map}
use Rattle.std.specs.List.{range_with_len}
use Rattle.std.proofs.Common.{sym, ap, ap₂, ◌∙◌, arith, get_or, zero-add}
use Rattle.std.proofs.lemmas.List.{same_lists}
use Rattle.std.proofs.lemmas.List.FromFn.{length-map-range_with_len, get_or-map-range_with_len}
use Rattle.std.proofs.lemmas.Nat.{div-mul-add, mod-mul-add, mul-add-lt, div_below, mod_below}
use Rattle.world_units.specs.declared.cell.CPos.{CPos}
use Rattle.game_model.specs.Grid.{Grid, IsOn, place_of}
use Rattle.shroud.specs.Grids.{cell_at, grid_of, grids_of, flag_of, is_set, no_grid}

abbrev whole : (width height : ℕ) → List Bool → Grid Bool
whole width height cells = record { width = width; height = height; cells = cells }

abbrev made : ℕ → ℕ → CPos
made x y = record { x = x; y = y }

-- The cell at the place of a cell is that cell.
pub cell_again : (width : ℕ) (p : CPos) → p.x < width → cell_at width (place_of width p) ≡ p
cell_again width p on =
    ap₂ made (mod-mul-add p.y width p.x on) (div-mul-add p.y width p.x on)

-- A place of a map has a cell of it.
pub cell_is_on :
    (width height place : ℕ) → place < width * height → IsOn width height (cell_at width place)
cell_is_on zero height place within = absurd (omega arith)
cell_is_on (suc less) height place within =
    record {
      column = mod_below place (suc less) (omega arith);
      row = div_below place (suc less) height (omega arith) (omega arith);
    }

-- Maps of tests that agree on these numbers are the same.
same_maps :
    {X : Type 0} (n : ℕ) (f g : ℕ → X) → ((k : ℕ) → k < n → f k ≡ g k) →
    map f (range_with_len 0 n) ≡ map g (range_with_len 0 n)
same_maps n f g same =
    same_lists (map f (range_with_len 0 n)) (map g (range_with_len 0 n))
    (length-map-range_with_len f 0 n ∙ sym (length-map-range_with_len g 0 n))
    (λ k d within.
    let below : k < n = omega (arith, within, length-map-range_with_len f 0 n) in
    get_or-map-range_with_len f 0 n k k d below (zero-add k)
    ∙ same k below
    ∙ sym (get_or-map-range_with_len g 0 n k k d below (zero-add k)))

-- Grids of tests that agree on the map are the same.
pub same_grids :
    (width height clients : ℕ) (f g : ℕ → CPos → Bool) →
    ((c : ℕ) (p : CPos) → c < clients → IsOn width height p → f c p ≡ g c p) →
    grids_of width height clients f ≡ grids_of width height clients g
unfolding grids_of grid_of
same_grids width height clients f g same =
    same_maps clients (λ c. grid_of width height (f c)) (λ c. grid_of width height (g c))
    (λ c within.
    let cells = same_maps (width * height)
    (λ place. f c (cell_at width place)) (λ place. g c (cell_at width place))
    (λ place inside.
    same c (cell_at width place) within (cell_is_on width height place inside)) in
    ap (λ (cells : List Bool). whole width height cells) cells)

-- The flag of a client's cell is what the test says of it.
pub flag_is :
    (width height clients : ℕ) (f : ℕ → CPos → Bool) (c : ℕ) (p : CPos) → c < clients →
    IsOn width height p → flag_of (grids_of width height clients f) c p ≡ f c p
unfolding grids_of grid_of flag_of
flag_is width height clients f c p within on =
    let grid : get_or (grids_of width height clients f) c no_grid ≡ grid_of width height (f c) =
    get_or-map-range_with_len (λ k. grid_of width height (f k)) 0 clients c c no_grid within
    (zero-add c) in
    let inside : place_of width p < width * height =
    mul-add-lt p.y width p.x height on.row on.column in
    let flag : is_set (grid_of width height (f c)) p ≡ f c (cell_at width (place_of width p)) =
    get_or-map-range_with_len (λ place. f c (cell_at width place)) 0 (width * height)
    (place_of width p) (place_of width p) false inside (zero-add (place_of width p)) in
    ap (λ (g : Grid Bool). is_set g p) grid ∙ flag ∙ ap (f c) (cell_again width p on.column)
