use Rattle.std.proofs.Common.{sym, ◌∙◌}
use Rattle.tick_core.proofs.BusyLemmas.{near_found}
use Rattle.tick_core.proofs.acting.actor_near.Goals as goal

pub returns-then-a-id : goal.returns-then-a-id
returns-then-a-id c =
    near_found c.args.t.now.actors c.args.i c.args.id c.in-Some.a.now c.len-ids_rise.ensures.list.rise (sym c.in-Some.ensures)
    c.if-a-id.true
