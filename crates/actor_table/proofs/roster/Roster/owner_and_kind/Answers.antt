use Rattle.std.proofs.Common.{sym, ap, ◌∙◌, arith}
use Rattle.std.specs.Option.{option_map}
use Rattle.actor_table.specs.Kinds.{owner_and_kind_of}
use Rattle.actor_table.proofs.Places.{actors_rise}
use Rattle.actor_table.proofs.RosterCalls.{at_within, found_actor, found_key}
use Rattle.actor_table.proofs.roster.Roster.owner_and_kind.Goals as goal

pub index-requires : goal.index-requires
index-requires c =
    let held = c.self.inside in
    omega (arith, at_within held.slots held.order.items c.args.id c.place_of.result c.self.invariant.filed (rw (← c.self.view_is) at c.place_of.ensures), held.order.ok.0)

pub index-a-requires : goal.index-a-requires
index-a-requires c =
    let held = c.self.inside in
    found_key held.slots _ held.order.items c.args.id c.place_of.result c.index.result.now c.self.invariant (rw (← c.self.view_is) at c.place_of.ensures) c.index.ensures

pub returns-clause-value : goal.returns-clause-value
returns-clause-value c =
    let held = c.self.inside in
    let found = found_actor held.slots _ held.order.items c.args.id c.place_of.result c.index.result.now c.self.invariant (rw (← c.self.view_is) at c.place_of.ensures) c.index.ensures in
    rw (← c.self.view_is) (ap (option_map owner_and_kind_of) (sym found ∙ c.index-a.ensures))

pub returns-clause-rises : goal.returns-clause-rises
returns-clause-rises c =
    let held = c.self.inside in
    rw (← c.self.view_is) (actors_rise held.slots 0 held.order.items c.self.invariant.rises c.self.invariant.filed)
