use Rattle.std.proofs.Common.{◌<◌, arith}
use Rattle.game_tick.specs.Nearest.{nearest_ore}
use Rattle.harvest.proofs.NearestLaw.{nearest_is_least}
use Rattle.harvest.proofs.Ranking.{one_least}
use Rattle.harvest.proofs.search.nearest_ore.Goals as goal

pub returns-clause-value : goal.returns-clause-value
returns-clause-value c =
    let wide : c.args.ore.now.width < 256 = omega (arith, c.width-columns.ensures, c.width-columns.type_inv) in
    let high : c.args.ore.now.height < 256 = omega (arith, c.height-rows.ensures, c.height-rows.type_inv) in
    let some : 0 < c.args.ore.now.width = omega (arith, c.requires.column) in
    one_least c.args.ore.now c.args.from c.find_ore.result (nearest_ore c.args.ore.now c.args.from) wide high c.find_ore.ensures (nearest_is_least c.args.ore.now c.args.from some wide high)
