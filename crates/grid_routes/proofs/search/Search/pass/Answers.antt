use Rattle.std.proofs.Common.{◌≡◌, ◌+◌, ◌%◌, ◌<◌, Option, ap, sym, subst}
use Rattle.game_model.specs.Walks.{Land}
use Rattle.grid_routes.specs.declared.reach.Reach.{Reach}
use Rattle.grid_routes.specs.EntryCosts.{entry_cost_in}
use Rattle.grid_routes.specs.Held.{emptied}
use Rattle.grid_routes.specs.Labels.{Distances}
use Rattle.grid_routes.specs.Steps.{IsSearch, rings_left}
use Rattle.grid_routes.proofs.Advancing.{passed, passed-fewer}
use Rattle.grid_routes.proofs.search.Search.pass.Goals as goal

pub returns-clause-search : goal.returns-clause-search
returns-clause-search c =
    let land : Land = record { entry_cost = entry_cost_in c.args.self.now.entry_costs; goal = c.args.goal } in
    let labels = c.ring.new.self.field.labels in
    let shelves = emptied c.ring.new.self.buckets (c.args.label % 71) in
    let reach : c.ring.new.self.field.reach ≡ c.args.self.now.field.reach = ap (λ (f : Distances). f.reach) c.ring.ensures.same in
    rw (c.raise.ensures, c.clear.ensures, c.ring.ensures.entry_costs)
    (subst (λ (r : Option Reach). IsSearch land (record { labels = labels; level = c.args.label + 1; reach = r }) shelves) (sym reach)
    (passed (entry_cost_in c.args.self.now.entry_costs) c.args.goal c.args.self.now.field c.args.self.now.buckets c.args.label
    c.ring.new.self.field.labels c.ring.new.self.buckets c.requires.search c.requires.whole c.requires.next
    c.ring.ensures.lowers c.ring.ensures.done c.requires.open))

pub returns-clause-fewer : goal.returns-clause-fewer
returns-clause-fewer c =
    let old = c.args.self.now.field in
    let labels = c.ring.new.self.field.labels in
    let reach : c.ring.new.self.field.reach ≡ old.reach = ap (λ (f : Distances). f.reach) c.ring.ensures.same in
    rw c.raise.ensures
    (subst (λ (r : Option Reach). rings_left (record { labels = labels; level = c.args.label + 1; reach = r }) < rings_left old) (sym reach)
    (passed-fewer (entry_cost_in c.args.self.now.entry_costs) c.args.goal c.args.self.now.field c.args.self.now.buckets c.args.label
    c.ring.new.self.field.labels c.ring.new.self.buckets c.requires.search c.requires.whole c.requires.next
    c.ring.ensures.lowers c.ring.ensures.done c.requires.open))
