use Rattle.grid_routes.specs.Asked.{asks_of}
use Rattle.grid_routes.proofs.Asking.{known-ask}
use Rattle.grid_routes.proofs.findings.Findings.known.Goals as goal

pub returns-clause-kept : goal.returns-clause-kept
returns-clause-kept c =
    let old = c.args.self.now in
    known-ask (asks_of old.fields.ask old.fields.kept.items) old.known.walks.items c.args.ask.now c.args.from
    c.direction.result c.direction.ensures.known
