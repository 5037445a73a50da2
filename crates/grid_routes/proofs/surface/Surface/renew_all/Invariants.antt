use Rattle.game_model.specs.Grid.{HasSize}
use Rattle.grid_routes.specs.Footing.{ArePut, number_at}
use Rattle.grid_routes.proofs.surface.Surface.renew_all.Given as goal

abbrev pub invariant-loop-y : goal.invariant-loop-y
invariant-loop-y l =
    HasSize l.fn.self.width l.fn.self.height l.self × ArePut (number_at l.terrain l.blocks l.goal) l.self l.y 0
