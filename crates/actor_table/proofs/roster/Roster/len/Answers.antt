use Rattle.actor_table.proofs.Places.{actors_rise}
use Rattle.actor_table.proofs.roster.Roster.len.Goals as goal

pub returns-clause-rises : goal.returns-clause-rises
returns-clause-rises c =
    let held = c.self.inside in
    rw (← c.self.view_is) (actors_rise held.slots 0 held.order.items c.self.invariant.rises c.self.invariant.filed)
