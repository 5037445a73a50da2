use Rattle.std.proofs.Common.{◌≡◌, ◌*◌, ℕ, List, replicate, sym, subst}
use Rattle.game_model.specs.OreRows.{AreCounted}
use Rattle.game_model.proofs.OreLemmas.{none_counted}
use Rattle.game_model.proofs.ore.Ore.create.Goals as goal

pub invariant_of-result : goal.invariant_of-result
invariant_of-result c =
    let cells : c.in_ok-cells.cells.items ≡ replicate (c.args.w * c.args.h) 0 = cc (c.in_ok-cells.ensures, c.from.ensures, c.from-2.ensures) in
    let rows : c.in_ok-rows.rows.items ≡ replicate c.args.h 0 = cc (c.in_ok-rows.ensures, c.from-3.ensures) in
    subst (λ (xs : List ℕ). AreCounted c.args.w c.args.h xs c.in_ok-rows.rows.items 0) (sym cells)
    (subst (λ (xs : List ℕ). AreCounted c.args.w c.args.h (replicate (c.args.w * c.args.h) 0) xs 0) (sym rows) (none_counted c.args.w c.args.h))
