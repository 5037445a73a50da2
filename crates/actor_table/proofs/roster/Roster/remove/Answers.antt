use Rattle.std.proofs.Common.{sym, ◌∙◌, arith}
use Rattle.actor_table.proofs.Places.{absent_is_none, actors_rise, without_absent}
use Rattle.actor_table.proofs.RosterCalls.{at_within, found_actor, found_key, removed}
use Rattle.actor_table.proofs.roster.Roster.remove.Goals as goal

pub remove-place-requires : goal.remove-place-requires
remove-place-requires c =
    let held = c.self.inside in
    omega (arith, at_within held.slots held.order.items c.args.id c.in-Ok.at c.self.invariant.filed (rw (← c.self.view_is) at c.in-Ok.ensures.found), held.order.ok.0)

pub remove-requires : goal.remove-requires
remove-requires c =
    let held = c.self.inside in
    found_key held.slots _ held.order.items c.args.id c.in-Ok.at c.remove-place.result c.self.invariant (rw (← c.self.view_is) at c.in-Ok.ensures.found) c.remove-place.ensures.value

pub invariant_of-self : goal.invariant_of-self
invariant_of-self c =
    let held = c.self.inside in
    rw c.remove-place.ensures.items ((removed held.slots _ held.order.items c.args.id c.in-Ok.at c.remove-place.result c.remove.new.self _ c.self.invariant (rw (← c.self.view_is) at c.in-Ok.ensures.found) c.remove-place.ensures.value c.remove.ensures.updates c.remove.ensures.len c.remove.ensures.capacity c.remove-place.ensures.capacity).roster)

pub returns-in-Ok-clause-value : goal.returns-in-Ok-clause-value
returns-in-Ok-clause-value c =
    let held = c.self.inside in
    rw (← c.self.view_is) (sym c.remove.ensures.value ∙ found_actor held.slots _ held.order.items c.args.id c.in-Ok.at c.remove-place.result c.self.invariant (rw (← c.self.view_is) at c.in-Ok.ensures.found) c.remove-place.ensures.value)

pub returns-in-Ok-clause-rest : goal.returns-in-Ok-clause-rest
returns-in-Ok-clause-rest c =
    let held = c.self.inside in
    rw (c.remove-place.ensures.items, ← c.self.view_is) ((removed held.slots _ held.order.items c.args.id c.in-Ok.at c.remove-place.result c.remove.new.self _ c.self.invariant (rw (← c.self.view_is) at c.in-Ok.ensures.found) c.remove-place.ensures.value c.remove.ensures.updates c.remove.ensures.len c.remove.ensures.capacity c.remove-place.ensures.capacity).actors)

pub returns-in-Err-clause-value : goal.returns-in-Err-clause-value
returns-in-Err-clause-value c = sym (absent_is_none c.args.self.now c.args.id c.in-Err.ensures.absent)

pub returns-in-Err-clause-rest : goal.returns-in-Err-clause-rest
returns-in-Err-clause-rest c = sym (without_absent c.args.self.now c.args.id c.in-Err.ensures.absent)

pub returns-in-Ok-clause-rises : goal.returns-in-Ok-clause-rises
returns-in-Ok-clause-rises c =
    let held = c.self.inside in
    rw (← c.self.view_is) (actors_rise held.slots 0 held.order.items c.self.invariant.rises c.self.invariant.filed)

pub returns-in-Err-clause-rises : goal.returns-in-Err-clause-rises
returns-in-Err-clause-rises c =
    let held = c.self.inside in
    rw (← c.self.view_is) (actors_rise held.slots 0 held.order.items c.self.invariant.rises c.self.invariant.filed)
