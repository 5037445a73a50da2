use Rattle.std.proofs.Common.{arith}
use Rattle.grid_routes.specs.EntryCosts.{entry_cost_in}
use Rattle.grid_routes.proofs.Expanding.{offered-all, offered-eight}
use Rattle.grid_routes.proofs.search.Search.spread.Goals as goal

pub returns-clause-same : goal.returns-clause-same
returns-clause-same c =
    let entry_cost = entry_cost_in c.args.self.now.entry_costs in
    let step_costs = c.step_costs-step_costs.ensures in
    (offered-eight entry_cost c.args.q.cell c.args.level _ _ _ _ _ _ _ _ _ _ _ _ _ _ _ _ _ _
    (c.offer.ensures.offers entry_cost 0 (omega arith) step_costs.north c.above-north.ensures.beside)
    (c.offer-2.ensures.offers entry_cost 1 (omega arith) step_costs.north_east (c.right_of-north_east.ensures.above c.above-north.ensures.beside))
    (c.offer-3.ensures.offers entry_cost 2 (omega arith) step_costs.east c.right.ensures.beside)
    (c.offer-4.ensures.offers entry_cost 3 (omega arith) step_costs.south_east (c.right_of-south_east.ensures.below c.below-south.ensures.beside))
    (c.offer-5.ensures.offers entry_cost 4 (omega arith) step_costs.south c.below-south.ensures.beside)
    (c.offer-6.ensures.offers entry_cost 5 (omega arith) step_costs.south_west (c.left_of-south_west.ensures.below c.below-south.ensures.beside))
    (c.offer-7.ensures.offers entry_cost 6 (omega arith) step_costs.west c.left.ensures.beside)
    (c.offer-8.ensures.offers entry_cost 7 (omega arith) step_costs.north_west (c.left_of-north_west.ensures.above c.above-north.ensures.beside))).same

pub returns-clause-lowers : goal.returns-clause-lowers
returns-clause-lowers c =
    let entry_cost = entry_cost_in c.args.self.now.entry_costs in
    let step_costs = c.step_costs-step_costs.ensures in
    (offered-eight entry_cost c.args.q.cell c.args.level _ _ _ _ _ _ _ _ _ _ _ _ _ _ _ _ _ _
    (c.offer.ensures.offers entry_cost 0 (omega arith) step_costs.north c.above-north.ensures.beside)
    (c.offer-2.ensures.offers entry_cost 1 (omega arith) step_costs.north_east (c.right_of-north_east.ensures.above c.above-north.ensures.beside))
    (c.offer-3.ensures.offers entry_cost 2 (omega arith) step_costs.east c.right.ensures.beside)
    (c.offer-4.ensures.offers entry_cost 3 (omega arith) step_costs.south_east (c.right_of-south_east.ensures.below c.below-south.ensures.beside))
    (c.offer-5.ensures.offers entry_cost 4 (omega arith) step_costs.south c.below-south.ensures.beside)
    (c.offer-6.ensures.offers entry_cost 5 (omega arith) step_costs.south_west (c.left_of-south_west.ensures.below c.below-south.ensures.beside))
    (c.offer-7.ensures.offers entry_cost 6 (omega arith) step_costs.west c.left.ensures.beside)
    (c.offer-8.ensures.offers entry_cost 7 (omega arith) step_costs.north_west (c.left_of-north_west.ensures.above c.above-north.ensures.beside))).lowers

pub returns-clause-done : goal.returns-clause-done
returns-clause-done c =
    let entry_cost = entry_cost_in c.args.self.now.entry_costs in
    let step_costs = c.step_costs-step_costs.ensures in
    offered-all entry_cost _ _ _ _ c.args.q.cell c.args.level c.requires.full
    (offered-eight entry_cost c.args.q.cell c.args.level _ _ _ _ _ _ _ _ _ _ _ _ _ _ _ _ _ _
    (c.offer.ensures.offers entry_cost 0 (omega arith) step_costs.north c.above-north.ensures.beside)
    (c.offer-2.ensures.offers entry_cost 1 (omega arith) step_costs.north_east (c.right_of-north_east.ensures.above c.above-north.ensures.beside))
    (c.offer-3.ensures.offers entry_cost 2 (omega arith) step_costs.east c.right.ensures.beside)
    (c.offer-4.ensures.offers entry_cost 3 (omega arith) step_costs.south_east (c.right_of-south_east.ensures.below c.below-south.ensures.beside))
    (c.offer-5.ensures.offers entry_cost 4 (omega arith) step_costs.south c.below-south.ensures.beside)
    (c.offer-6.ensures.offers entry_cost 5 (omega arith) step_costs.south_west (c.left_of-south_west.ensures.below c.below-south.ensures.beside))
    (c.offer-7.ensures.offers entry_cost 6 (omega arith) step_costs.west c.left.ensures.beside)
    (c.offer-8.ensures.offers entry_cost 7 (omega arith) step_costs.north_west (c.left_of-north_west.ensures.above c.above-north.ensures.beside)))
