use Rattle.std.proofs.Common.{◌<◌, length, arith}
use Rattle.actor_table.proofs.RosterCalls.{key_there}
use Rattle.actor_table.proofs.roster.Roster.copy.Goals as goal

pub index-requires : goal.index-requires
index-requires c =
    let held = c.self.inside in
    let same = c.deref-place-items.ensures.value in
    let within : c.loop-place.place-index < length c.deref-place-items.result.now = omega arith in
    rw same (key_there held.slots held.order.items c.loop-place.place-index _ c.self.invariant.filed (rw same at within))
