use Rattle.std.proofs.Common.{◌∙◌, ap, sym}
use Rattle.game_model.specs.Setup.{Setup}
use Rattle.game_tick.specs.Orders.{harvesting}
use Rattle.tick_core.proofs.OrderLemmas.{order_is, order_not, with_actors}
use Rattle.tick_core.proofs.activity_orders.order_harvest.Goals as goal

pub returns-then-harvest_fits : goal.returns-then-harvest_fits
returns-then-harvest_fits c =
    let setup : Setup = record { rules = c.args.rules.now; map = c.args.map.now } in
    c.give_activity.ensures ∙ ap (with_actors c.args.t.now)
    (order_is c.args.rules.now c.args.t.now.actors (harvesting setup c.args.cell c.args.queued) c.args.client c.args.id _ c.in-Some.ensures.own (sym c.harvest_fits.ensures ∙ c.if-harvest_fits.true))

pub returns-else-harvest_fits : goal.returns-else-harvest_fits
returns-else-harvest_fits c =
    let setup : Setup = record { rules = c.args.rules.now; map = c.args.map.now } in
    ap (with_actors c.args.t.now)
    (order_not c.args.rules.now c.args.t.now.actors (harvesting setup c.args.cell c.args.queued) c.args.client c.args.id _ c.in-Some.ensures.own (sym c.harvest_fits.ensures ∙ c.if-harvest_fits.false))
