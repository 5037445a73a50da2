use Rattle.std.proofs.Common.{◌<◌, sym, ◌∙◌, arith}
use Rattle.harvest.proofs.Outwards.{rows_found_some}
use Rattle.harvest.proofs.search.find_ore.Goals as goal

pub returns-then-is_nearer : goal.returns-then-is_nearer
returns-then-is_nearer c =
    let wide : c.args.ore.now.width < 256 = omega (arith, c.width-width.ensures, c.width-width.type_inv) in
    let high : c.args.ore.now.height < 256 = omega (arith, c.height-dy-end.ensures, c.height-dy-end.type_inv) in
    rows_found_some c.args.ore.now c.args.from c.loop-dy.dy c.loop-dy.best wide high (sym c.is_nearer.ensures ∙ c.if-is_nearer.true) c.loop-dy.invariant
