use Rattle.std.proofs.Common.{Some, None, ap, cond, sym, ◌∙◌}
use Rattle.tick_core.proofs.BusyLemmas.{living_there, nobody_at}
use Rattle.tick_core.proofs.acting.living_at.Goals as goal

-- There is one at the place.
pub returns-in_default : goal.returns-in_default
returns-in_default c = nobody_at c.args.t.now.actors c.args.i c.args.id c.requires (sym c.in_default.ensures)

pub returns-then-is_alive : goal.returns-then-is_alive
returns-then-is_alive c =
    let a = c.in-Some.a.now in
    sym (living_there c.args.t.now.actors c.args.i c.args.id a c.len-ids_rise.ensures.list.rise c.requires (sym c.in-Some.ensures)
    ∙ ap (λ alive. cond alive (Some a) None) (sym c.if-is_alive.ensures))

pub returns-else-is_alive : goal.returns-else-is_alive
returns-else-is_alive c =
    let a = c.in-Some.a.now in
    sym (living_there c.args.t.now.actors c.args.i c.args.id a c.len-ids_rise.ensures.list.rise c.requires (sym c.in-Some.ensures)
    ∙ ap (λ alive. cond alive (Some a) None) (sym c.if-is_alive.ensures))
