use Rattle.std.proofs.Common.{◌≡◌, ◌∙◌, ap, length, sym}
use Rattle.grid_routes.proofs.Spreading.{written}
use Rattle.grid_routes.proofs.field.Field.offer_all.Goals as goal

pub returns-clause-spread : goal.returns-clause-spread
returns-clause-spread c = λ entry_cost level are from.
    let all = c.self.inside.labels in
    let lent = c.as_mut_slice-labels.ensures in
    let long : all.len ≡ length all.items = sym lent.len ∙ ap length lent.value in
    rw (← c.self.view_is, written all.items c.offer_all.new.labels all.len long (c.offer_all.ensures.labels ∙ ap length lent.value), ← lent.value)
    (c.offer_all.ensures.spread entry_cost level are (rw (← c.self.view_is, ← lent.value) at from))
