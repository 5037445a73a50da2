use Rattle.std.proofs.Common.{◌≡◌}
use Rattle.grid_routes.specs.Kept.{IsSettled}
use Rattle.grid_routes.specs.KnownWalks.{IsBestWalk}
use Rattle.grid_routes.proofs.findings.walk_from.Given as goal

abbrev pub invariant-loop-taken : goal.invariant-loop-taken
invariant-loop-taken l = record {
  walk : IsBestWalk l.search.entry_costs.terrain l.search.entry_costs.built l.walk;
  asked : l.walk.ask ≡ l.ask;
  settled : IsSettled l.search l.at;
}
