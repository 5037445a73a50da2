use Rattle.grid_routes.specs.Asked.{asks_of, walk_asks}
use Rattle.grid_routes.proofs.Asking.{fields-grow, settled-count}
use Rattle.grid_routes.proofs.findings.Findings.settle.Goals as goal

pub returns-clause-computed : goal.returns-clause-computed
returns-clause-computed c =
    let old = c.args.self.now in
    settled-count (asks_of old.fields.ask old.fields.kept.items) (walk_asks old.known.walks.items) c.args.ask.now
    c.settle-begun.result old.computed c.counted-self.result c.counted-self.ensures c.settle-begun.ensures.begun

pub returns-clause-asks : goal.returns-clause-asks
returns-clause-asks c =
    let old = c.args.self.now in
    let new = c.settle-begun.new.self in
    fields-grow (asks_of old.fields.ask old.fields.kept.items) (asks_of new.ask new.kept.items)
    (walk_asks old.known.walks.items) c.args.ask.now c.settle-begun.ensures.asks
