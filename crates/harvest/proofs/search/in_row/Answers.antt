use Rattle.std.proofs.Common.{◌≡◌, ◌<◌, is_some, true, sym, ◌∙◌, arith}
use Rattle.harvest.proofs.Outwards.{row_found_some}
use Rattle.harvest.proofs.search.in_row.Goals as goal

pub returns-then-is_some : goal.returns-then-is_some
returns-then-is_some c =
    let wide : c.args.ore.now.width < 256 = omega (arith, c.width-dx-end.ensures, c.width-dx-end.type_inv) in
    let high : c.args.ore.now.height < 256 = omega (arith, c.height-height.ensures, c.height-height.type_inv) in
    let some : is_some c.aside-found.result ≡ true = sym c.is_some.ensures ∙ c.if-is_some.true in
    row_found_some c.args.ore.now c.args.from c.args.y c.loop-dx.dx c.aside-found.result wide high some c.loop-dx.invariant c.aside-found.ensures
