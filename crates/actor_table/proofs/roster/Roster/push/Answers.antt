use Rattle.std.proofs.Common.{refl}
use Rattle.actor_table.proofs.RosterCalls.{pushed}
use Rattle.actor_table.specs.declared.place.Place.{Place}
use Rattle.actor_table.proofs.roster.Roster.push.Goals as goal

pub invariant_of-self : goal.invariant_of-self
invariant_of-self c =
    let held = c.self.inside in
    let given = c.insert_reserved-key.ensures in
    let place : Place = record { id = c.args.a.id; key = c.insert_reserved-key.result } in
    rw c.push_reserved.ensures.items ((pushed held.slots _ held.order.items c.args.a c.insert_reserved-key.new.self _ place c.self.invariant refl (rw (← c.self.view_is) at c.requires.room) (rw (← c.self.view_is) at c.requires.above) given.was_vacant given.updates given.len given.capacity c.push_reserved.ensures.capacity).roster)

pub returns : goal.returns
returns c =
    let held = c.self.inside in
    let given = c.insert_reserved-key.ensures in
    let place : Place = record { id = c.args.a.id; key = c.insert_reserved-key.result } in
    rw (c.push_reserved.ensures.items, ← c.self.view_is) ((pushed held.slots _ held.order.items c.args.a c.insert_reserved-key.new.self _ place c.self.invariant refl (rw (← c.self.view_is) at c.requires.room) (rw (← c.self.view_is) at c.requires.above) given.was_vacant given.updates given.len given.capacity c.push_reserved.ensures.capacity).actors)
