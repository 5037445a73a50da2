use Rattle.std.proofs.Common.{◌∙◌, [], ap}
use Rattle.grid_routes.specs.Asked.{ask_for}
use Rattle.grid_routes.specs.Routing.{Routing}
use Rattle.grid_routes.proofs.Asking.{asks_after, begun_looked, count-anew-looked, count-looked, through}
use Rattle.grid_routes.proofs.Looking.{seen-best}
use Rattle.grid_routes.proofs.router.Router.best_dir.Goals as goal

pub returns-clause-value : goal.returns-clause-value
returns-clause-value c = c.best_dir_on_current_ground.ensures.value c.args.map.now c.args.blocks.now c.look.ensures.looks

pub returns-clause-best : goal.returns-clause-best
returns-clause-best c =
    seen-best c.look.new.self c.args.map.now c.args.blocks.now c.args.costs.now c.args.goal c.args.from c.best_dir_on_current_ground.result
    c.look.ensures.looks c.best_dir_on_current_ground.ensures.best

pub returns-clause-asked : goal.returns-clause-asked
returns-clause-asked c =
    let ask = ask_for c.args.costs.now c.args.goal in
    let mid = c.look.new.self in
    record {
      computed =
          count-looked c.args.self.now.asks mid.asks ask c.args.self.now.computed mid.computed
          c.best_dir_on_current_ground.new.self.computed c.look.ensures.computed c.look.ensures.asks c.best_dir_on_current_ground.ensures.computed;
      asks =
          through c.args.self.now.asks mid.asks c.best_dir_on_current_ground.new.self.asks ask c.look.ensures.asks
          c.best_dir_on_current_ground.ensures.asks;
      alone = λ differs.
          asks_after [] mid.asks c.best_dir_on_current_ground.new.self.asks ask (c.look.ensures.forgets differs)
          c.best_dir_on_current_ground.ensures.asks;
      anew = λ differs.
          count-anew-looked mid.asks ask c.args.self.now.computed mid.computed c.best_dir_on_current_ground.new.self.computed
          c.look.ensures.computed (c.look.ensures.forgets differs) c.best_dir_on_current_ground.ensures.computed;
      again = λ looks is.
          c.best_dir_on_current_ground.ensures.again (ap (λ (r : Routing). r.last) (c.look.ensures.same looks) ∙ is) ∙ c.look.ensures.computed;
      begun =
          begun_looked ask c.args.self.now.computed mid.computed c.best_dir_on_current_ground.new.self.computed
          c.best_dir_on_current_ground.new.self.last c.look.ensures.computed c.best_dir_on_current_ground.ensures.begun;
    }
