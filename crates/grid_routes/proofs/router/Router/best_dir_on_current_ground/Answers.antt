use Rattle.std.proofs.Common.{sym, subst}
use Rattle.grid_routes.specs.Asked.{CountsOn, KeepsOnly, ask_for, asks_in}
use Rattle.grid_routes.specs.Routing.{LooksAt, Routing}
use Rattle.grid_routes.proofs.Looking.{seen-value}
use Rattle.grid_routes.proofs.router.Router.best_dir_on_current_ground.Goals as goal

pub returns-clause-value : goal.returns-clause-value
returns-clause-value c = λ map built looks.
    let r = c.self.inside in
    let seen : Routing = record {
      width = r.width;
      height = r.height;
      terrain = r.findings.fields.search.entry_costs.terrain;
      built = r.findings.fields.search.entry_costs.built;
      last = r.findings.fields.ask;
      asks = asks_in r.findings;
      computed = r.findings.computed;
    } in
    seen-value seen map built c.args.costs.now c.args.goal c.args.from c.best_dir.result
    (subst (λ (x : Routing). LooksAt x map built) (sym c.self.view_is) looks) c.requires.costs c.best_dir.ensures.best

pub returns-clause-computed : goal.returns-clause-computed
returns-clause-computed c =
    let ask = ask_for c.args.costs.now c.args.goal in
    subst (λ (x : Routing). CountsOn x.asks ask x.computed c.best_dir.new.self.computed) c.self.view_is
    c.best_dir.ensures.computed

pub returns-clause-asks : goal.returns-clause-asks
returns-clause-asks c =
    let ask = ask_for c.args.costs.now c.args.goal in
    subst (λ (x : Routing). KeepsOnly ask x.asks (asks_in c.best_dir.new.self)) c.self.view_is c.best_dir.ensures.asks
