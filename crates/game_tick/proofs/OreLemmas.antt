-- Proofs about ore that becomes less, and about the nearest cell with ore.
use Rattle.std.specs.Prelude.{◌≡◌, ℕ, zero, suc, ◌+◌, ◌-◌, ◌*◌, ◌<◌, ◌≤◌, Bool, true, false, nat_lt}
use Rattle.std.specs.Prelude.{if◌then◌else◌, List, [], ◌∷◌, Some, refl}
use Rattle.std.specs.List.{All, filter, fold, range_with_len}
use Rattle.std.proofs.Common.{sym, ◌∙◌, ap, subst, arith, length-set}
use Rattle.std.proofs.lemmas.List.Elements.{All-from_get_or, All-filter, All-map, All-head}
use Rattle.std.proofs.lemmas.List.Elements.{All-tail}
use Rattle.std.proofs.lemmas.List.FromFn.{length-range_with_len, get_or-range_with_len}
use Rattle.std.proofs.lemmas.Nat.{div_below, mod_below}
use Rattle.std.proofs.lemmas.Option.{unwrap_or-slice_get}
use Rattle.world_units.specs.declared.cell.CPos.{CPos}
use Rattle.world_units.specs.Cells.{dist_sq_of}
use Rattle.game_model.specs.declared.limits.TheConstants.{MAX_ORE}
use Rattle.game_model.specs.Grid.{Grid, IsOn, place_of, with_cell}
use Rattle.game_model.specs.OreRows.{has_ore}
use Rattle.game_model.specs.ValidMap.{IsOreOf}
use Rattle.game_tick.specs.Nearest.{cell_of, cells_of, first_least, lesser_by, nearest_ore, ore_at}
use Rattle.game_tick.specs.StepKeeps.{HasNoMoreOre}
use Rattle.game_tick.proofs.CashLemmas.{lowered}

pub same_ore : (ore : Grid ℕ) → HasNoMoreOre ore ore
same_ore ore = record { width = refl; height = refl; count = refl; most = λ k. omega arith }

pub less_ore :
    (ore : Grid ℕ) (p : CPos) → HasNoMoreOre ore (with_cell ore p (ore_at ore p - 1))
less_ore ore p =
    record {
      width = refl;
      height = refl;
      count = simp length-set;
      most =
          λ k. lowered ore.cells (place_of ore.width p) (ore_at ore p - 1) k
          (omega (arith, unwrap_or-slice_get ore.cells (place_of ore.width p) 0));
    }

pub ore_kept :
    (width height : ℕ) (old new : Grid ℕ) → HasNoMoreOre old new → IsOreOf width height old →
    IsOreOf width height new
ore_kept width height old new less is =
    record {
      size = record { width = less.width ∙ is.size.width; height = less.height ∙ is.size.height };
      whole =
          record {
            cells =
                less.count ∙ is.whole.cells ∙ sym (ap (λ n. n * old.height) less.width) ∙ sym
                (ap (λ n. new.width * n) less.height);
          };
      most =
          All-from_get_or (λ bales. bales ≤ MAX_ORE) new.cells 0
          (λ k within. omega (arith, less.most k, is.most k 0 (omega (arith, within, less.count))));
    }

-- A cell of the list of all cells is on the map.
cell_on :
    (width height place : ℕ) → place < width * height → IsOn width height (cell_of width place)
cell_on zero height place within = absurd (omega arith)
cell_on (suc less) height place within =
    record {
      column = mod_below place (suc less) (omega arith);
      row = div_below place (suc less) height (omega arith) (omega arith);
    }

cells_on : (width height : ℕ) → All (IsOn width height) (cells_of width height)
cells_on width height =
    All-map (IsOn width height) (cell_of width) (range_with_len 0 (width * height))
    (λ k d within.
    let inside : k < width * height =
    omega (arith, within, length-range_with_len 0 (width * height)) in
    subst (λ place. IsOn width height (cell_of width place))
    (sym (get_or-range_with_len 0 (width * height) k d inside))
    (cell_on width height (0 + k) (omega arith)))

lesser_holds :
    {T : Type 0} (P : T → Type 0) (less : Bool) (first second : T) → P first → P second →
    P (if less then second else first)
lesser_holds P true first second one other = other
lesser_holds P false first second one other = one

fold_holds :
    {T : Type 0} (P : T → Type 0) (number : T → ℕ) (x : T) (xs : List T) → P x → All P xs →
    P (fold (lesser_by number) x xs)
fold_holds P number x [] here all = here
fold_holds P number x (y ∷ ys) here all =
    fold_holds P number (lesser_by number x y) ys
    (lesser_holds P (nat_lt (number y) (number x)) x y here (All-head P y ys all))
    (All-tail P y ys all)

-- What holds of all holds of the first least one.
pub least_holds :
    {T : Type 0} (P : T → Type 0) (number : T → ℕ) (xs : List T) (y : T) → All P xs →
    first_least number xs ≡ Some y → P y
least_holds P number [] y all found = absurd cc
least_holds P number (x ∷ xs) y all found =
    let same : fold (lesser_by number) x xs ≡ y = grind arith in
    subst P same (fold_holds P number x xs (All-head P x xs all) (All-tail P x xs all))

pub nearest_on :
    (ore : Grid ℕ) (from p : CPos) → nearest_ore ore from ≡ Some p → IsOn ore.width ore.height p
unfolding nearest_ore
nearest_on ore from p found =
    let test : CPos → Bool = λ q. has_ore (ore_at ore q) in
    least_holds (IsOn ore.width ore.height) (dist_sq_of from)
    (filter test (cells_of ore.width ore.height)) p
    (All-filter test (IsOn ore.width ore.height) (cells_of ore.width ore.height)
    (cells_on ore.width ore.height))
    found
