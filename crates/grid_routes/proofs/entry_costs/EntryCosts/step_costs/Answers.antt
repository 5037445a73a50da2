use Rattle.std.proofs.Common.{◌≡◌, ℕ, Bool, nat_lt, get_or, Option, refl, subst, ◌∙◌, arith}
use Rattle.world_units.specs.declared.cell.CPos.{CPos}
use Rattle.world_units.specs.Directions.{step_of}
use Rattle.game_model.specs.Walks.{is_free}
use Rattle.grid_routes.specs.EntryCosts.{Ground, entry_cost_in}
use Rattle.grid_routes.specs.Around.{number_in}
use Rattle.grid_routes.proofs.Entering.{all-step_costs, open-read}
use Rattle.grid_routes.proofs.entry_costs.EntryCosts.step_costs.Goals as goal

pub returns : goal.returns
returns c =
    let entry_costs = c.self.inside in
    let free : (o : Option CPos) (n : ℕ) (b : Bool) → b ≡ nat_lt 0 (get_or entry_costs.charges n 0) →
    n ≡ number_in entry_costs.surface o → b ≡ is_free (entry_cost_in c.args.self.now) o =
    λ o n b is at.
    subst (λ (g : Ground). b ≡ is_free (entry_cost_in g) o) c.self.view_is
    (open-read _ entry_costs.surface entry_costs.charges o n b c.self.invariant is at) in
    let around = c.around-around.ensures in
    all-step_costs (entry_cost_in c.args.self.now) c.args.q (omega arith) (omega arith) c.from-entry_cost.result c.is_open-north.result
    c.is_open-east.result c.is_open-south.result c.is_open-west.result
    (free (step_of c.args.q 0) _ _ c.is_open-north.ensures around.north)
    (free (step_of c.args.q 2) _ _ c.is_open-east.ensures around.east)
    (free (step_of c.args.q 4) _ _ c.is_open-south.ensures around.south)
    (free (step_of c.args.q 6) _ _ c.is_open-west.ensures around.west) (c.from-entry_cost.ensures ∙ c.entry_cost.ensures.value)
    (omega (arith, c.from-entry_cost.ensures, c.entry_cost.ensures.cheap)) _ refl c.step_cost_between.ensures c.step_cost_between-2.ensures
    c.step_cost_between-3.ensures c.step_cost_between-4.ensures
