use Rattle.std.proofs.Common.{◌≡◌}
use Rattle.game_model.specs.Grid.{HasSize}
use Rattle.grid_routes.specs.EntryCosts.{entry_cost_in}
use Rattle.grid_routes.specs.Steps.{IsSearch, rings_left}
use Rattle.grid_routes.proofs.search.Search.pass_label.Given as goal

abbrev pub invariant-loop-from : goal.invariant-loop-from
invariant-loop-from l =
    (l.self.entry_costs ≡ l.fn.self.entry_costs)
    × IsSearch (record { entry_cost = entry_cost_in l.self.entry_costs; goal = l.goal }) l.self.field l.self.buckets
    × HasSize l.fn.self.field.labels.width l.fn.self.field.labels.height l.self.field.labels
    × (l.self.field.reach ≡ l.fn.self.field.reach)

abbrev pub decreases-loop-from : goal.decreases-loop-from
decreases-loop-from l = rings_left l.self.field
