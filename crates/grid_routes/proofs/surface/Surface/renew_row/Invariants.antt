use Rattle.game_model.specs.Grid.{HasSize}
use Rattle.grid_routes.specs.Footing.{ArePut, number_at}
use Rattle.grid_routes.proofs.surface.Surface.renew_row.Given as goal

abbrev pub invariant-loop-x : goal.invariant-loop-x
invariant-loop-x l =
    HasSize l.fn.self.width l.fn.self.height l.self × ArePut (number_at l.terrain l.blocks l.goal) l.self l.y l.x
