use Rattle.std.proofs.Common.{sym, ap, ◌∙◌, arith}
use Rattle.std.specs.Option.{option_map}
use Rattle.game_model.specs.declared.actor.Actor.{Actor}
use Rattle.actor_table.proofs.RosterCalls.{at_within, found_actor, found_key}
use Rattle.actor_table.proofs.roster.Roster.cell_of.Goals as goal

pub index-requires : goal.index-requires
index-requires c =
    let held = c.self.inside in
    omega (arith, at_within held.slots held.order.items c.args.id c.place_of.result c.self.invariant.filed (rw (← c.self.view_is) at c.place_of.ensures), held.order.ok.0)

pub index-requires-2 : goal.index-requires-2
index-requires-2 c =
    let held = c.self.inside in
    found_key held.slots _ held.order.items c.args.id c.place_of.result c.index.result.now c.self.invariant (rw (← c.self.view_is) at c.place_of.ensures) c.index.ensures

pub returns : goal.returns
returns c =
    let held = c.self.inside in
    let found = found_actor held.slots _ held.order.items c.args.id c.place_of.result c.index.result.now c.self.invariant (rw (← c.self.view_is) at c.place_of.ensures) c.index.ensures in
    rw (← c.self.view_is) (ap (option_map (λ (a : Actor). a.cell)) (sym found ∙ c.index-2.ensures))
