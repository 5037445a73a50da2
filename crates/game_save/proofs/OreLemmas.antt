-- The ore of cells that is read one after the other.
use Rattle.std.proofs.Common.{◌≡◌, ℕ, zero, suc, ◌+◌, ◌-◌, ◌*◌, ◌/◌, ◌%◌, ◌<◌, ◌≤◌, List, [], ◌∷◌, ◌++◌}
use Rattle.std.proofs.Common.{Ok, Err, refl, sym, ap, ap₂, ◌∙◌, arith, length, take}
use Rattle.std.specs.List.{All}
use Rattle.std.proofs.Math.Nat.{mod-lt, div-lt_iff_lt-mul, mul_comm}
use Rattle.std.proofs.lemmas.List.{take_all, take_more_set}
use Rattle.std.proofs.lemmas.List.Elements.{All-push}
use Rattle.std.proofs.lemmas.Nat.{div-add-mod'}
use Rattle.world_units.specs.declared.cell.CPos.{CPos}
use Rattle.game_model.specs.Grid.{Grid, HasSize, place_of, with_cell}
use Rattle.game_save.specs.declared.save_fault.SaveFault.{SaveFault}
use Rattle.game_save.specs.Fields.{Left, SaveRead, each_after}
use Rattle.game_save.specs.WorldReading.{next_ore, ore_in}
use Rattle.game_save.proofs.EachLemmas.{each_step}

-- The ore of one more cell was read.
pub ore_step :
    (ore : Grid ℕ) (p : CPos) (count i : ℕ) (left after : Left) (bales : ℕ)
    (all : SaveRead (List ℕ)) → i < count → length ore.cells ≡ count →
    place_of ore.width p ≡ i → next_ore (take i ore.cells) left ≡ Ok (bales, after) →
    each_after next_ore (take i ore.cells) (count - i) left ≡ all →
    each_after next_ore (take (i + 1) (with_cell ore p bales).cells) (count - (i + 1)) after ≡ all
ore_step ore p count i left after bales all some many there is so_far =
    let more : take (i + 1) (with_cell ore p bales).cells ≡ take i ore.cells ++ bales ∷ [] =
    rw there (take_more_set ore.cells i bales (omega arith)) in
    ap (λ (held : List ℕ). each_after next_ore held (count - (i + 1)) after) more
    ∙ each_step next_ore (take i ore.cells) count i left after bales all some is so_far

-- The ore so far is within the limits.
pub ore_more :
    (P : ℕ → Type 0) (ore : Grid ℕ) (p : CPos) (i bales : ℕ) → i < length ore.cells →
    place_of ore.width p ≡ i → All P (take i ore.cells) → P bales →
    All P (take (i + 1) (with_cell ore p bales).cells)
ore_more P ore p i bales some there all one =
    let more : take (i + 1) (with_cell ore p bales).cells ≡ take i ore.cells ++ bales ∷ [] =
    rw there (take_more_set ore.cells i bales some) in
    rw more (All-push P (take i ore.cells) bales all one)

-- The ore of all cells was read.
pub ore_read :
    (width height count i : ℕ) (ore : Grid ℕ) (left after : Left) → count ≡ width * height →
    HasSize width height ore → length ore.cells ≡ count → count ≤ i →
    each_after next_ore [] count left ≡ Ok (take i ore.cells, after) →
    ore_in width height left ≡ Ok (ore, after)
unfolding ore_in
ore_read width height count i ore left after same size many past is =
    let cells : each_after next_ore [] (width * height) left ≡ Ok (ore.cells, after) =
    ap (λ (n : ℕ). each_after next_ore [] n left) (sym same) ∙ is
    ∙ ap (λ (xs : List ℕ). Ok (xs, after)) (take_all i ore.cells (omega arith)) in
    rw cells
    (ap₂ (λ (w h : ℕ). Ok (record { width = w; height = h; cells = ore.cells }, after))
    (sym size.width) (sym size.height))

-- A cell has none.
pub ore_bad :
    (width height count : ℕ) (left : Left) (fault : SaveFault) → count ≡ width * height →
    each_after next_ore [] count left ≡ Err fault → ore_in width height left ≡ Err fault
unfolding ore_in
ore_bad width height count left fault same is =
    let cells : each_after next_ore [] (width * height) left ≡ Err fault =
    ap (λ (n : ℕ). each_after next_ore [] n left) (sym same) ∙ is in
    rw cells refl

-- A cell by its place.
some_columns : (width height place : ℕ) → place < width * height → 0 < width
some_columns zero height place within = absurd (omega arith)
some_columns (suc width) height place within = omega arith

pub column_of : (width height place : ℕ) → place < width * height → place % width < width
column_of width height place within = mod-lt place (some_columns width height place within)

pub row_of : (width height place : ℕ) → place < width * height → place / width < height
row_of width height place within =
    (div-lt_iff_lt-mul {k = width} {x = place} {y = height} (some_columns width height place within)).1
    (omega (arith, mul_comm width height))

pub ruleset cell_steps = (column_of, row_of, div-add-mod')
