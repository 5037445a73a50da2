use Rattle.actor_table.proofs.RosterCalls.{searched}
use Rattle.actor_table.proofs.roster.Roster.search.Goals as goal

pub returns : goal.returns
returns c =
    let held = c.self.inside in
    let known = searched held.slots held.order.items c.args.id c.find.result c.self.invariant.filed (rw c.deref.ensures.value at c.find.ensures.found) (rw c.deref.ensures.value at c.find.ensures.absent) in
    rw (← c.self.view_is) (record { found = known.found; absent = known.absent })

pub find-requires : goal.find-requires
find-requires c = rw c.deref.ensures.value c.self.invariant.rises
