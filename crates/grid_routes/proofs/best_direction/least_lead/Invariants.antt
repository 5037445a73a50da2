use Rattle.std.proofs.Common.{ℕ, ◌<◌}
use Rattle.grid_routes.specs.EntryCosts.{entry_cost_in}
use Rattle.grid_routes.specs.Steps.{IsLead}
use Rattle.grid_routes.proofs.best_direction.least_lead.Given as goal

abbrev pub invariant-loop-d : goal.invariant-loop-d
invariant-loop-d l =
    (e : ℕ) → e < l.d → IsLead (entry_cost_in l.entry_costs) l.field.labels l.from l.distance e → ⊥
