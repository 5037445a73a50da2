use Rattle.grid_routes.proofs.Advancing.{dry-fewer}
use Rattle.grid_routes.proofs.search.Search.advance.Goals as goal

pub returns-in-None-clause-fewer : goal.returns-in-None-clause-fewer
returns-in-None-clause-fewer c =
    rw (c.raise.ensures, c.make_whole.ensures.field) (dry-fewer c.args.self.now.field c.requires.open)
