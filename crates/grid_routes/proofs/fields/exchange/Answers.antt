use Rattle.std.proofs.Common.{refl}
use Rattle.grid_routes.proofs.Keeping.{exchanged}
use Rattle.grid_routes.proofs.fields.exchange.Goals as goal

pub returns-clause-kept : goal.returns-clause-kept
returns-clause-kept c =
    exchanged c.args.kept.now.items c.args.place (record { ask = c.args.ask; field = c.index_mut.result.now.field })
    c.index_mut-2.result.now c.args.ask c.args.field.now c.swap.new.y c.requires refl c.index_mut-2.ensures.value
    c.swap.ensures.y_after
