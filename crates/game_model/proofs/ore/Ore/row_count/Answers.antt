use Rattle.std.proofs.Common.{◌≡◌, ◌<◌, ℕ, get_or, length, ap, ◌∙◌, arith}
use Rattle.std.proofs.lemmas.List.{get_or_read}
use Rattle.game_model.proofs.OreLemmas.{most_in_row}
use Rattle.game_model.proofs.ore.Ore.row_count.Goals as goal

pub returns-clause-most : goal.returns-clause-most
returns-clause-most c =
    let o = c.self.inside in
    let height : o.height ≡ c.args.self.now.height = ap {B = ℕ} (λ g. g.height) c.self.view_is in
    let width : o.width ≡ c.args.self.now.width = ap {B = ℕ} (λ g. g.width) c.self.view_is in
    let within : c.args.y < o.height = omega (arith, c.requires, height) in
    let there : c.args.y < length o.rows.items = omega (arith, within, c.self.invariant.each) in
    let n : ℕ = c.index.result.now in
    let read : n ≡ get_or o.rows.items c.args.y 0 = get_or_read o.rows.items c.args.y n there (c.index.ensures ∙ ap (λ k. get_or o.rows.items k n) c.from.ensures) 0 in
    omega (arith, most_in_row o.width o.height c.args.y o.cells.items o.rows.items o.total c.self.invariant within, read, width)
