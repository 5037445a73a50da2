use Rattle.grid_routes.proofs.Expanding.{Ringed}
use Rattle.grid_routes.proofs.search.Search.ring.Given as goal

abbrev pub invariant-loop-i : goal.invariant-loop-i
invariant-loop-i l =
    Ringed l.fn.self.entry_costs l.fn.self.field l.fn.self.buckets l.self.entry_costs l.self.field l.self.buckets l.level l.i
