use Rattle.std.proofs.Common.{refl}
use Rattle.grid_routes.specs.EntryCosts.{entry_cost_in}
use Rattle.grid_routes.proofs.search.Search.spread_inside.Goals as goal

pub returns-clause-lowers : goal.returns-clause-lowers
returns-clause-lowers c =
    (c.offer_all.ensures.spread (entry_cost_in c.args.self.now.entry_costs) c.args.level (record {
      cost = c.args.entry_cost;
      some = c.requires.some;
      cheap = c.requires.cheap;
      straight = refl;
      across = refl;
      step_costs = c.corners.ensures;
    }) c.requires.from).lowers

pub returns-clause-done : goal.returns-clause-done
returns-clause-done c =
    (c.offer_all.ensures.spread (entry_cost_in c.args.self.now.entry_costs) c.args.level (record {
      cost = c.args.entry_cost;
      some = c.requires.some;
      cheap = c.requires.cheap;
      straight = refl;
      across = refl;
      step_costs = c.corners.ensures;
    }) c.requires.from).done
