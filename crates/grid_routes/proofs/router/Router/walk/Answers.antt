use Rattle.std.proofs.Common.{[], ap, inr, subst, sym, ◌∙◌}
use Rattle.grid_routes.specs.Asked.{ask_for, asks_in}
use Rattle.grid_routes.specs.Questions.{IsAsked}
use Rattle.grid_routes.specs.Routing.{AreSized, Routing}
use Rattle.grid_routes.specs.declared.findings.Findings.{Findings}
use Rattle.grid_routes.proofs.Asking.{asks_after, count-anew-looked, count-looked, through}
use Rattle.grid_routes.proofs.router.Router.walk.Goals as goal

pub returns-clause-asked : goal.returns-clause-asked
returns-clause-asked c =
    let map = c.args.map.now in
    let built = c.args.blocks.now in
    let ask = ask_for c.args.costs.now c.args.goal in
    let r = c.self.inside in
    let old = r.findings in
    let mid = c.look.new.self in
    let new = c.settle.new.self in
    let seen : Findings → Routing = λ findings. record {
      width = r.width;
      height = r.height;
      terrain = findings.fields.search.entry_costs.terrain;
      built = findings.fields.search.entry_costs.built;
      last = findings.fields.ask;
      asks = asks_in findings;
      computed = findings.computed;
    } in
    let sizes : AreSized (seen old) map built =
    subst (λ (x : Routing). AreSized x map built) (sym c.self.view_is) c.requires.sizes in
    let asked : IsAsked map built ask (seen old) (seen new) = record {
      computed =
          count-looked (asks_in old) (asks_in mid) ask old.computed mid.computed new.computed c.look.ensures.computed
          c.look.ensures.asks c.settle.ensures.computed;
      asks = through (asks_in old) (asks_in mid) (asks_in new) ask c.look.ensures.asks c.settle.ensures.asks;
      alone = λ differs.
          asks_after [] (asks_in mid) (asks_in new) ask
          (c.look.ensures.forgets (λ terrain blocks. differs (record { sizes = sizes; terrain = terrain; blocks = blocks })))
          c.settle.ensures.asks;
      anew = λ differs.
          count-anew-looked (asks_in mid) ask old.computed mid.computed new.computed c.look.ensures.computed
          (c.look.ensures.forgets (λ terrain blocks. differs (record { sizes = sizes; terrain = terrain; blocks = blocks })))
          c.settle.ensures.computed;
      again = λ looks is.
          c.settle.ensures.again
          (ap (λ (f : Findings). f.fields.ask) (c.look.ensures.same looks.terrain looks.blocks) ∙ is)
          ∙ c.look.ensures.computed;
      begun = inr c.settle.ensures.asked;
    } in
    subst (λ (x : Routing). IsAsked map built ask x (seen new)) c.self.view_is asked
