use Rattle.grid_routes.specs.Routing.{AreSized}
use Rattle.world_tests.proofs.searches.is_as_told.Given as goal

abbrev pub invariant-loop-part : goal.invariant-loop-part
invariant-loop-part l = AreSized l.router l.map l.blocks
