use Rattle.c_worlds.proofs.SightLemmas.{flag_there}
use Rattle.c_worlds.proofs.sights.flag_at.Goals as goal

pub returns : goal.returns
returns c =
    flag_there c.args.shroud.now c.args.client c.args.i c.width.result c.from.result c.cell_at.result c.seen.result
    c.requires.cell c.width.ensures c.cell_at.ensures.column c.cell_at.ensures.place c.seen.ensures c.from.ensures
