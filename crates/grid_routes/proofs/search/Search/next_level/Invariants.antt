use Rattle.std.proofs.Common.{◌+◌}
use Rattle.grid_routes.specs.Steps.{IsClear}
use Rattle.grid_routes.proofs.search.Search.next_level.Given as goal

abbrev pub invariant-loop-k : goal.invariant-loop-k
invariant-loop-k l = IsClear l.self.field l.self.buckets (l.self.field.level + l.k)
