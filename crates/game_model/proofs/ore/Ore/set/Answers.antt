use Rattle.std.proofs.Common.{◌≡◌, ◌≤◌, ◌<◌, ◌+◌, ◌*◌, ℕ, get_or, set, length, ap, ◌∙◌, sym, subst, arith}
use Rattle.std.specs.Prelude.{IsTrue}
use Rattle.std.proofs.lemmas.List.{get_or_read}
use Rattle.std.proofs.lemmas.Nat.{mul-add-lt}
use Rattle.game_model.specs.OreRows.{has_ore, recounted, AreCounted}
use Rattle.game_model.proofs.OreLemmas.{set_counted, some_in_row}
use Rattle.game_model.proofs.ore.Ore.set.Goals as goal

pub recounted-requires-clause-some : goal.recounted-requires-clause-some
recounted-requires-clause-some c =
    let o = c.self.inside in
    let x : ℕ = c.args.p.x in
    let y : ℕ = c.args.p.y in
    let width = ap {B = ℕ} (λ g. g.width) c.self.view_is in
    let height = ap {B = ℕ} (λ g. g.height) c.self.view_is in
    let column : x < o.width = omega (arith, c.requires.column, width) in
    let row : y < o.height = omega (arith, c.requires.row, height) in
    let at : c.from.result * c.from-2.result + c.from-3.result ≡ y * o.width + x =
    ap (λ k. k * c.from-2.result + c.from-3.result) c.from.ensures ∙ ap (λ k. y * k + c.from-3.result) c.from-2.ensures ∙ ap (λ k. y * o.width + k) c.from-3.ensures in
    let there : y * o.width + x < length o.cells.items = omega (arith, mul-add-lt y o.width x o.height row column, c.self.invariant.whole) in
    let here : y < length o.rows.items = omega (arith, row, c.self.invariant.each) in
    let b : ℕ = c.index.result.now in
    let n : ℕ = c.index-2.result.now in
    let cell : b ≡ get_or o.cells.items (y * o.width + x) 0 = get_or_read o.cells.items (y * o.width + x) b there (c.index.ensures ∙ ap (λ k. get_or o.cells.items k b) at) 0 in
    let first : n ≡ get_or o.rows.items y 0 = get_or_read o.rows.items y n here (c.index-2.ensures ∙ ap (λ k. get_or o.rows.items k n) c.from-row.ensures) 0 in
    λ has. subst (λ (k : ℕ). 1 ≤ k) (sym first)
    (some_in_row o.width o.height x y o.cells.items o.rows.items o.total c.self.invariant column row (subst (λ (k : ℕ). IsTrue (has_ore k)) cell has))

pub invariant_of-self : goal.invariant_of-self
invariant_of-self c =
    let o = c.self.inside in
    let x : ℕ = c.args.p.x in
    let y : ℕ = c.args.p.y in
    let width = ap {B = ℕ} (λ g. g.width) c.self.view_is in
    let height = ap {B = ℕ} (λ g. g.height) c.self.view_is in
    let column : x < o.width = omega (arith, c.requires.column, width) in
    let row : y < o.height = omega (arith, c.requires.row, height) in
    let at : c.from.result * c.from-2.result + c.from-3.result ≡ y * o.width + x =
    ap (λ k. k * c.from-2.result + c.from-3.result) c.from.ensures ∙ ap (λ k. y * k + c.from-3.result) c.from-2.ensures ∙ ap (λ k. y * o.width + k) c.from-3.ensures in
    let there : y * o.width + x < length o.cells.items = omega (arith, mul-add-lt y o.width x o.height row column, c.self.invariant.whole) in
    let here : y < length o.rows.items = omega (arith, row, c.self.invariant.each) in
    let b : ℕ = c.index.result.now in
    let n : ℕ = c.index-2.result.now in
    let cell : b ≡ get_or o.cells.items (y * o.width + x) 0 = get_or_read o.cells.items (y * o.width + x) b there (c.index.ensures ∙ ap (λ k. get_or o.cells.items k b) at) 0 in
    let first : n ≡ get_or o.rows.items y 0 = get_or_read o.rows.items y n here (c.index-2.ensures ∙ ap (λ k. get_or o.rows.items k n) c.from-row.ensures) 0 in
    let r : ℕ = c.recounted.result in
    let t : ℕ = c.recounted-self-inside.result in
    let one : r ≡ recounted (get_or o.rows.items y 0) (has_ore (get_or o.cells.items (y * o.width + x) 0)) (has_ore c.args.ore) =
    c.recounted.ensures ∙ ap (λ k. recounted k (has_ore b) (has_ore c.args.ore)) first
    ∙ ap (λ k. recounted (get_or o.rows.items y 0) (has_ore k) (has_ore c.args.ore)) cell in
    let all : t ≡ recounted o.total (has_ore (get_or o.cells.items (y * o.width + x) 0)) (has_ore c.args.ore) =
    c.recounted-self-inside.ensures ∙ ap (λ k. recounted o.total (has_ore k) (has_ore c.args.ore)) cell in
    subst (λ (k : ℕ). AreCounted o.width o.height (set o.cells.items k c.args.ore) (set o.rows.items c.from-row.result r) t) (sym at)
    (subst (λ (k : ℕ). AreCounted o.width o.height (set o.cells.items (y * o.width + x) c.args.ore) (set o.rows.items k r) t) (sym c.from-row.ensures)
    (set_counted o.width o.height x y c.args.ore o.cells.items o.rows.items o.total r t c.self.invariant column row one all))
