-- A row whose count is 0 has no ore.
use Rattle.std.proofs.Common.{◌≡◌, ℕ, zero, suc, ◌+◌, ◌*◌, ◌<◌, Bool, true, false, cond, List, [], ◌∷◌, drop, get_or, None, refl, sym, ap, ◌∙◌, arith}
use Rattle.std.specs.List.{count_by}
use Rattle.std.proofs.lemmas.List.{get_or-drop, get_or-take}
use Rattle.std.proofs.lemmas.List.Sums.{sum_by-cons}
use Rattle.std.proofs.lemmas.Option.{unwrap_or-slice_get}
use Rattle.world_units.specs.declared.cell.CPos.{CPos}
use Rattle.game_model.specs.Grid.{Grid, place_of}
use Rattle.game_model.specs.OreRows.{has_ore, ore_in_row, row_of}
use Rattle.game_tick.specs.Nearest.{ore_at}
use Rattle.harvest.specs.Ranks.{IsLeast, IsRichIn}

abbrev one_if : Bool → ℕ
one_if b = cond b 1 0

zero_parts : (b : Bool) (rest : ℕ) → one_if b + rest ≡ 0 → (b ≡ false) × (rest ≡ 0)
zero_parts true rest none = absurd (omega (arith, none))
zero_parts false rest none = (refl, omega (arith, none))

none_first : (n : ℕ) (bales : List ℕ) → count_by has_ore (n ∷ bales) ≡ 0 → (has_ore n ≡ false) × (count_by has_ore bales ≡ 0)
none_first n bales none = zero_parts (has_ore n) (count_by has_ore bales) (sym (sum_by-cons (λ x. one_if (has_ore x)) n bales) ∙ none)

none_counted : (bales : List ℕ) (i : ℕ) → count_by has_ore bales ≡ 0 → has_ore (get_or bales i 0) ≡ false
none_counted [] i none = refl
none_counted (n ∷ bales) zero none = (none_first n bales none).0
none_counted (n ∷ bales) (suc i) none = none_counted bales i (none_first n bales none).1

-- no cell of the row has ore
pub row_empty : (ore : Grid ℕ) (from : CPos) (y : ℕ) → ore_in_row ore y ≡ 0 → IsLeast ore.width from (IsRichIn ore y) None
row_empty ore from y none q in_row =
    let column : q.x < ore.width = in_row.rich.on_grid.column in
    let here : get_or (row_of ore.cells ore.width y) q.x 0 ≡ get_or ore.cells (y * ore.width + q.x) 0 =
    get_or-take ore.width (drop (y * ore.width) ore.cells) q.x 0 column ∙ get_or-drop (y * ore.width) ore.cells q.x 0 in
    let at : ore_at ore q ≡ get_or ore.cells (y * ore.width + q.x) 0 =
    unwrap_or-slice_get ore.cells (place_of ore.width q) 0 ∙ ap (λ n. get_or ore.cells (n * ore.width + q.x) 0) in_row.row in
    let empty : has_ore (ore_at ore q) ≡ false = ap has_ore (at ∙ sym here) ∙ none_counted (row_of ore.cells ore.width y) q.x none in
    absurd (let some = in_row.rich.some in cc)
