use Rattle.grid_routes.specs.EntryCosts.{land_over}
use Rattle.grid_routes.proofs.Beginning.{going-on}
use Rattle.grid_routes.proofs.search.Search.resume.Goals as goal

pub returns-clause-search : goal.returns-clause-search
returns-clause-search c =
    let ground = c.args.self.now.entry_costs in
    rw (c.lose.ensures, c.turn_to.ensures)
    (going-on (land_over ground.terrain ground.built c.args.costs.now c.args.goal) c.args.self.now.field c.args.self.now.buckets
    ground.terrain.width ground.terrain.height c.requires.size c.requires.room c.requires.going)
