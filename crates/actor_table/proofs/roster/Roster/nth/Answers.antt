use Rattle.std.proofs.Common.{arith}
use Rattle.actor_table.proofs.RosterCalls.{nth_here, nth_past}
use Rattle.actor_table.proofs.roster.Roster.nth.Goals as goal

pub returns-then-i-len : goal.returns-then-i-len
returns-then-i-len c =
    let held = c.self.inside in
    rw (← c.self.view_is) (nth_here held.slots held.order.items c.args.i _ c.self.invariant.filed (omega (arith, held.order.ok.0)) c.index.ensures)

pub returns-else-i-len : goal.returns-else-i-len
returns-else-i-len c =
    let held = c.self.inside in
    rw (← c.self.view_is) (nth_past held.slots held.order.items c.args.i c.self.invariant.filed (omega (arith, held.order.ok.0)))
