use Rattle.std.proofs.Common.{arith}
use Rattle.game_model.specs.Walks.{Land}
use Rattle.grid_routes.specs.EntryCosts.{entry_cost_in}
use Rattle.grid_routes.proofs.Beginning.{as-search, no-shelves}
use Rattle.grid_routes.proofs.Best.{best-direction, no-direction}
use Rattle.grid_routes.proofs.best_direction.best_on.Goals as goal

pub returns-then-distance : goal.returns-then-distance
returns-then-distance c =
    let land : Land = record { entry_cost = entry_cost_in c.args.entry_costs.now; goal = c.args.goal } in
    no-direction land c.args.field.now (no-shelves c.args.field.now) (as-search land c.args.field.now c.requires.going) c.args.from
    c.label-distance.result c.requires.on c.requires.settled c.if-distance.true c.label-distance.ensures

pub returns-else-distance : goal.returns-else-distance
returns-else-distance c =
    let land : Land = record { entry_cost = entry_cost_in c.args.entry_costs.now; goal = c.args.goal } in
    best-direction land c.args.field.now (no-shelves c.args.field.now) (as-search land c.args.field.now c.requires.going) c.args.from
    c.label-distance.result c.requires.on c.requires.settled (omega arith) c.label-distance.ensures c.least_lead.result
    c.least_lead.ensures
