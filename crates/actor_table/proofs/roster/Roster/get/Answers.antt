use Rattle.std.proofs.Common.{sym, ◌∙◌, arith}
use Rattle.actor_table.proofs.Places.{absent_is_none}
use Rattle.actor_table.proofs.RosterCalls.{at_within, found_actor}
use Rattle.actor_table.proofs.roster.Roster.get.Goals as goal

pub index-requires : goal.index-requires
index-requires c =
    let held = c.self.inside in
    omega (arith, at_within held.slots held.order.items c.args.id c.in-Ok.at c.self.invariant.filed (rw (← c.self.view_is) at c.in-Ok.ensures.found), held.order.ok.0)

pub returns-in-Ok : goal.returns-in-Ok
returns-in-Ok c =
    let held = c.self.inside in
    rw (← c.self.view_is) (c.get.ensures ∙ found_actor held.slots _ held.order.items c.args.id c.in-Ok.at c.index.result.now c.self.invariant (rw (← c.self.view_is) at c.in-Ok.ensures.found) c.index.ensures)

pub returns-in-Err : goal.returns-in-Err
returns-in-Err c = sym (absent_is_none c.args.self.now c.args.id c.in-Err.ensures.absent)
