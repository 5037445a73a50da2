use Rattle.std.proofs.Common.{◌<◌, arith}
use Rattle.grid_routes.specs.declared.field.TheConstants.{NONE}
use Rattle.grid_routes.specs.Labels.{label_of}
use Rattle.grid_routes.proofs.Filling.{labelled-on}
use Rattle.grid_routes.proofs.search.Search.expand.Goals as goal

pub place-at-requires : goal.place-at-requires
place-at-requires c =
    let less : label_of c.args.self.now.field.labels c.args.q < NONE = omega (arith, c.requires.from, c.requires.low) in
    labelled-on c.args.self.now.field.labels c.args.q less

pub is_inside-requires : goal.is_inside-requires
is_inside-requires c =
    let less : label_of c.args.self.now.field.labels c.args.q < NONE = omega (arith, c.requires.from, c.requires.low) in
    rw (c.width-width.ensures, c.height-height.ensures)
    (record { on = labelled-on c.args.self.now.field.labels c.args.q less; at = c.place-at.ensures })

pub spread_inside-requires-clause-here : goal.spread_inside-requires-clause-here
spread_inside-requires-clause-here c =
    let less : label_of c.args.self.now.field.labels c.args.q < NONE = omega (arith, c.requires.from, c.requires.low) in
    rw (c.width-width.ensures, c.height-height.ensures)
    (record { on = labelled-on c.args.self.now.field.labels c.args.q less; at = c.place-at.ensures })

pub spread-requires-clause-here : goal.spread-requires-clause-here
spread-requires-clause-here c =
    let less : label_of c.args.self.now.field.labels c.args.q < NONE = omega (arith, c.requires.from, c.requires.low) in
    rw (c.width-width.ensures, c.height-height.ensures)
    (record { on = labelled-on c.args.self.now.field.labels c.args.q less; at = c.place-at.ensures })
