use Rattle.std.proofs.Common.{ℕ, Some, refl, subst, ◌∙◌, Option}
use Rattle.std.proofs.lemmas.List.{get_or_read}
use Rattle.game_model.specs.Grid.{Grid, HasSize}
use Rattle.grid_routes.specs.Beside.{IsBeside}
use Rattle.grid_routes.specs.declared.beside.Placed.{Placed}
use Rattle.grid_routes.specs.declared.surface.TheConstants.{ROCK}
use Rattle.grid_routes.proofs.Entering.{number-none, number-some, number-within}
use Rattle.grid_routes.proofs.surface.Surface.number.Goals as goal

pub returns-in-Some : goal.returns-in-Some
returns-in-Some c = λ q d beside.
    let g : Grid ℕ = record { width = c.self.inside.width; height = c.self.inside.height; cells = c.self.inside.numbers.items } in
    let size : HasSize c.args.width c.args.height g = rw (← c.self.view_is) at c.requires.size in
    let one : IsBeside c.args.width c.args.height q d (Some c.in-Some.n) =
    subst (λ (o : Option Placed). IsBeside c.args.width c.args.height q d o) c.in-Some.is beside in
    rw (← c.self.view_is)
    (get_or_read g.cells c.in-Some.n.at c.index.result.now
    (number-within c.args.width c.args.height g c.in-Some.n c.self.invariant size (one.some c.in-Some.n refl).1) c.index.ensures ROCK
    ∙ number-some c.args.width c.args.height g q d c.in-Some.n size one)

pub returns-in-None : goal.returns-in-None
returns-in-None c = λ q d beside.
    number-none c.args.width c.args.height c.args.self.now q d c.requires.size
    (subst (λ (o : Option Placed). IsBeside c.args.width c.args.height q d o) c.in-None.is beside)
