use Rattle.std.proofs.Common.{◌≡◌}
use Rattle.grid_routes.specs.Steps.{IsFilled}
use Rattle.grid_routes.proofs.search.Search.refill_row.Given as goal

abbrev pub invariant-loop-x : goal.invariant-loop-x
invariant-loop-x l =
    (l.self.entry_costs ≡ l.fn.self.entry_costs) × (l.self.field ≡ l.fn.self.field) × (l.self.buckets.room ≡ l.fn.self.buckets.room)
    × IsFilled l.fn.self.field l.self.buckets l.y l.x
