use Rattle.grid_routes.proofs.Asking.{room_asks}
use Rattle.grid_routes.proofs.fields.Fields.create.Goals as goal

pub returns-clause-asks : goal.returns-clause-asks
returns-clause-asks c = room_asks c.args.w c.args.h c.in_ok-kept.kept.items c.in_ok-kept.ensures.empty
