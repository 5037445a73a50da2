use Rattle.std.proofs.Common.{refl, ◌∙◌}
use Rattle.grid_routes.specs.EntryCosts.{land_over}
use Rattle.grid_routes.proofs.Beginning.{begins}
use Rattle.grid_routes.proofs.StepCostLemmas.{fair-map}
use Rattle.grid_routes.proofs.search.Search.begin.Goals as goal

pub returns-clause-search : goal.returns-clause-search
returns-clause-search c =
    let ground = c.args.self.now.entry_costs in
    rw (c.push.ensures.value, c.begin.ensures.value, c.turn_to.ensures)
    (begins (land_over ground.terrain ground.built c.args.costs.now c.args.goal) c.args.self.now.field c.clear_all.new.self
    ground.terrain.width ground.terrain.height c.begin.ensures.full
    (fair-map ground.terrain ground.built c.args.costs.now c.args.goal ground.terrain.width ground.terrain.height
    (record { width = refl; height = refl }) c.requires.costs) c.requires.size c.push.ensures.whole c.clear_all.ensures.empty
    c.clear_all.ensures.whole (c.clear_all.ensures.room ∙ c.requires.room) c.requires.goal c.args.reach)
