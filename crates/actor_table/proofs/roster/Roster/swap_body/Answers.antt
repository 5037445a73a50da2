use Rattle.std.proofs.Common.{Some, refl, sym, ap, ◌∙◌, arith}
use Rattle.std.specs.Option.{option_map}
use Rattle.game_model.specs.declared.actor.Actor.{Actor}
use Rattle.actor_table.proofs.RosterCalls.{at_within, found_actor, found_key, changed}
use Rattle.actor_table.proofs.roster.Roster.swap_body.Goals as goal

pub index-requires : goal.index-requires
index-requires c =
    let held = c.self.inside in
    omega (arith, at_within held.slots held.order.items c.args.id c.place_of.result c.self.invariant.filed (rw (← c.self.view_is) at c.place_of.ensures), held.order.ok.0)

pub index_mut-requires : goal.index_mut-requires
index_mut-requires c =
    let held = c.self.inside in
    found_key held.slots _ held.order.items c.args.id c.place_of.result c.index.result.now c.self.invariant (rw (← c.self.view_is) at c.place_of.ensures) c.index.ensures

pub invariant_of-self : goal.invariant_of-self
invariant_of-self c =
    let held = c.self.inside in
    rw c.swap.ensures.x_after ((changed held.slots _ held.order.items c.args.id c.place_of.result c.index.result.now c.index_mut.result.now (λ (a : Actor). record a { body = c.args.body.now }) c.self.invariant (rw (← c.self.view_is) at c.place_of.ensures) c.index.ensures c.index_mut.ensures.value refl).roster)

pub returns-clause-given : goal.returns-clause-given
returns-clause-given c =
    let held = c.self.inside in
    rw (← c.self.view_is, c.swap.ensures.x_after) ((changed held.slots _ held.order.items c.args.id c.place_of.result c.index.result.now c.index_mut.result.now (λ (a : Actor). record a { body = c.args.body.now }) c.self.invariant (rw (← c.self.view_is) at c.place_of.ensures) c.index.ensures c.index_mut.ensures.value refl).actors)

pub returns-clause-taken : goal.returns-clause-taken
returns-clause-taken c =
    let held = c.self.inside in
    let found = found_actor held.slots _ held.order.items c.args.id c.place_of.result c.index.result.now c.self.invariant (rw (← c.self.view_is) at c.place_of.ensures) c.index.ensures in
    rw (← c.self.view_is) (ap (option_map (λ (a : Actor). a.body)) (sym found ∙ c.index_mut.ensures.value) ∙ ap Some (sym c.swap.ensures.y_after))
