use Rattle.grid_routes.specs.EntryCosts.{entry_cost_in}
use Rattle.grid_routes.proofs.Walking.{leads-somewhere, onward}
use Rattle.grid_routes.proofs.search.Search.next.Goals as goal

pub unreachable-requires-in-None : goal.unreachable-requires-in-None
unreachable-requires-in-None c =
    leads-somewhere (record { entry_cost = entry_cost_in c.args.self.now.entry_costs; goal = c.args.goal }) c.args.self.now.field c.args.self.now.buckets
    c.requires.search c.args.at c.label.result c.requires.on c.requires.settled c.requires.labelled c.requires.away c.label.ensures
    c.in-None.ensures

pub returns : goal.returns
returns c =
    onward (record { entry_cost = entry_cost_in c.args.self.now.entry_costs; goal = c.args.goal }) c.args.self.now.field c.args.self.now.buckets
    c.requires.search c.args.at c.in-Some-step.q c.in-Some.d c.label.result c.requires.on c.requires.settled c.requires.labelled
    c.label.ensures c.in-Some.ensures c.in-Some-step.ensures.value
