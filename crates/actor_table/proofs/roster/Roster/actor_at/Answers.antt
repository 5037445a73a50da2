use Rattle.actor_table.proofs.Places.{actors_rise}
use Rattle.actor_table.proofs.RosterCalls.{places_count, key_here, actor_here}
use Rattle.actor_table.proofs.roster.Roster.actor_at.Goals as goal

pub returns-clause-rises : goal.returns-clause-rises
returns-clause-rises c =
    let held = c.self.inside in
    rw (← c.self.view_is) (actors_rise held.slots 0 held.order.items c.self.invariant.rises c.self.invariant.filed)

pub index-requires-2 : goal.index-requires-2
index-requires-2 c =
    let held = c.self.inside in
    let within = places_count held.slots held.order.items c.args.i (rw (← c.self.view_is) at c.requires) in
    key_here held.slots held.order.items c.args.i c.index.result.now c.self.invariant.filed within c.index.ensures

pub returns-clause-value : goal.returns-clause-value
returns-clause-value c =
    let held = c.self.inside in
    let within = places_count held.slots held.order.items c.args.i (rw (← c.self.view_is) at c.requires) in
    rw (← c.self.view_is) (actor_here held.slots held.order.items c.args.i c.index.result.now c.index-2.result.now within c.index.ensures c.index-2.ensures)
