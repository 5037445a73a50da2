use Rattle.std.proofs.Common.{subst}
use Rattle.std.specs.Prelude.{Contains}
use Rattle.std.specs.List.{All}
use Rattle.grid_routes.specs.Asked.{asks_in}
use Rattle.grid_routes.specs.Routing.{Routing}
use Rattle.grid_routes.proofs.router.Router.look.Goals as goal

pub returns-clause-asks : goal.returns-clause-asks
returns-clause-asks c =
    subst (λ (x : Routing). All (Contains x.asks) (asks_in c.look.new.self)) c.self.view_is c.look.ensures.asks
