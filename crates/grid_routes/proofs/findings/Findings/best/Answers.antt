use Rattle.grid_routes.specs.Asked.{asks_of}
use Rattle.grid_routes.proofs.Asking.{put-asks}
use Rattle.grid_routes.proofs.Knowing.{put_best}
use Rattle.grid_routes.proofs.findings.Findings.best.Goals as goal

pub returns-clause-found : goal.returns-clause-found
returns-clause-found c =
    let search = c.args.self.now.fields.search in
    let found = c.requires.found in
    record {
      fields = found.fields;
      known = put_best search.entry_costs.terrain search.entry_costs.built c.args.self.now.known.walks.items c.put.new.self.walks.items
          c.walk_from-walk.result found.known c.walk_from-walk.ensures.best c.put.ensures;
    }

pub returns-clause-asks : goal.returns-clause-asks
returns-clause-asks c =
    let old = c.args.self.now in
    put-asks (asks_of old.fields.ask old.fields.kept.items) old.known.walks.items c.put.new.self.walks.items
    c.walk_from-walk.result c.args.ask.now c.put.ensures c.walk_from-walk.ensures.asked
