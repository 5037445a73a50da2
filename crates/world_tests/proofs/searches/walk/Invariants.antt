use Rattle.grid_routes.specs.Routing.{IsSameSize}
use Rattle.world_tests.proofs.searches.walk.Given as goal

abbrev pub invariant-loop-steps : goal.invariant-loop-steps
invariant-loop-steps l = IsSameSize l.fn.router l.router
