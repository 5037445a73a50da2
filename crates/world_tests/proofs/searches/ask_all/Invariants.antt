use Rattle.grid_routes.specs.Routing.{IsSameSize}
use Rattle.world_tests.proofs.searches.ask_all.Given as goal

abbrev pub invariant-loop-number : goal.invariant-loop-number
invariant-loop-number l = IsSameSize l.fn.router l.router
