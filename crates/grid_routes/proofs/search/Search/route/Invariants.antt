use Rattle.std.proofs.Common.{◌*◌, ◌≤◌}
use Rattle.std.specs.Vec.{vec_capacity}
use Rattle.grid_routes.specs.EntryCosts.{entry_cost_in}
use Rattle.grid_routes.specs.Labels.{label_of}
use Rattle.grid_routes.proofs.Walking.{RouteSoFar}
use Rattle.grid_routes.proofs.search.Search.route.Given as goal

abbrev pub invariant-loop-goal : goal.invariant-loop-goal
invariant-loop-goal l =
    RouteSoFar (record { entry_cost = entry_cost_in l.self.entry_costs; goal = l.goal }) l.self.field l.fn.from l.at l.cells.items
    × (l.self.field.labels.width * l.self.field.labels.height ≤ vec_capacity l.cells)

abbrev pub decreases-loop-goal : goal.decreases-loop-goal
decreases-loop-goal l = label_of l.self.field.labels l.at
