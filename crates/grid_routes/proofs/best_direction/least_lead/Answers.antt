use Rattle.std.proofs.Common.{inl, inr, rules, arith}
use Rattle.std.proofs.lemmas.Bool.{cases_lt}
use Rattle.grid_routes.proofs.best_direction.least_lead.Goals as goal

pub returns-then-leads : goal.returns-then-leads
returns-then-leads c = record {
  leads = search rules;
  least = λ e lead.
      elim (cases_lt e c.loop-d.d) [ inl below ↦ absurd (c.loop-d.invariant e below lead) | inr past ↦ past ];
}

pub returns : goal.returns
returns c = λ d lead. c.loop-d.invariant d (omega (arith, lead.step.direction)) lead
