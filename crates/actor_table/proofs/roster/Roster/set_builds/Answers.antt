use Rattle.std.proofs.Common.{refl, arith}
use Rattle.actor_table.specs.Parts.{with_builds}
use Rattle.actor_table.proofs.Places.{actors_rise}
use Rattle.actor_table.proofs.RosterCalls.{at_within, found_key, changed}
use Rattle.actor_table.proofs.roster.Roster.set_builds.Goals as goal

pub index-requires : goal.index-requires
index-requires c =
    let held = c.self.inside in
    omega (arith, at_within held.slots held.order.items c.args.id c.place_of.result c.self.invariant.filed (rw (← c.self.view_is) at c.place_of.ensures), held.order.ok.0)

pub index_mut-requires : goal.index_mut-requires
index_mut-requires c =
    let held = c.self.inside in
    found_key held.slots _ held.order.items c.args.id c.place_of.result c.index.result.now c.self.invariant (rw (← c.self.view_is) at c.place_of.ensures) c.index.ensures

pub invariant_of-self : goal.invariant_of-self
invariant_of-self c =
    let held = c.self.inside in
    (changed held.slots _ held.order.items c.args.id c.place_of.result c.index.result.now c.index_mut.result.now (with_builds c.args.builds) c.self.invariant (rw (← c.self.view_is) at c.place_of.ensures) c.index.ensures c.index_mut.ensures.value refl).roster

pub returns-clause-value : goal.returns-clause-value
returns-clause-value c =
    let held = c.self.inside in
    rw (← c.self.view_is) ((changed held.slots _ held.order.items c.args.id c.place_of.result c.index.result.now c.index_mut.result.now (with_builds c.args.builds) c.self.invariant (rw (← c.self.view_is) at c.place_of.ensures) c.index.ensures c.index_mut.ensures.value refl).actors)

pub returns-clause-rises : goal.returns-clause-rises
returns-clause-rises c =
    let held = c.self.inside in
    rw (← c.self.view_is) (actors_rise held.slots 0 held.order.items c.self.invariant.rises c.self.invariant.filed)
