use Rattle.game_model.specs.Grid.{IsOn}
use Rattle.grid_routes.specs.Footing.{number_at}
use Rattle.grid_routes.proofs.Entering.{renewed}
use Rattle.grid_routes.proofs.surface.Surface.renew.Goals as goal

pub returns-then-p-self-2 : goal.returns-then-p-self-2
returns-then-p-self-2 c =
    let on : IsOn c.args.self.now.width c.args.self.now.height c.args.p =
    rw (← c.self.view_is) (record { column = c.if-p-self.true; row = c.if-p-self-2.true }) in
    rw c.put.ensures.value
    (renewed (number_at c.args.terrain.now c.args.blocks.now c.args.goal) c.args.self.now c.args.p c.number_on.result
    c.put.ensures.full on c.number_on.ensures)
