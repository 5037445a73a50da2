use Rattle.std.proofs.Common.{ap, ◌∙◌, get_or}
use Rattle.grid_routes.proofs.Entering.{entry_cost-read}
use Rattle.grid_routes.proofs.entry_costs.EntryCosts.entry_cost.Goals as goal

pub returns-clause-value : goal.returns-clause-value
returns-clause-value c =
    rw (← c.self.view_is)
    (c.charge.ensures ∙ ap (λ n. get_or c.self.inside.charges n 0) c.at.ensures
    ∙ entry_cost-read _ c.self.inside.surface c.self.inside.charges c.args.p c.self.invariant)
