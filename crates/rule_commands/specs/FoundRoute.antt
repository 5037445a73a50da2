-- A route as the code holds it, by its cost and its cells.
use Rattle.std.specs.Prelude.{ℕ, List, Option, option_map}
use Rattle.world_units.specs.declared.cell.CPos.{CPos}
use Rattle.grid_routes.specs.declared.route.Route.{Route}

abbrev pub found_route : Option Route → Option (ℕ × List CPos)
found_route = option_map (λ (route : Route). (route.cost, route.cells))
