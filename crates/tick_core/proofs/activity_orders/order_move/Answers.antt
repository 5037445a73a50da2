use Rattle.std.proofs.Common.{◌∙◌, ap, sym}
use Rattle.game_model.specs.Setup.{Setup}
use Rattle.game_tick.specs.Orders.{moving}
use Rattle.tick_core.proofs.OrderLemmas.{order_is, order_not, with_actors}
use Rattle.tick_core.proofs.activity_orders.order_move.Goals as goal

pub returns-then-move_fits : goal.returns-then-move_fits
returns-then-move_fits c =
    let setup : Setup = record { rules = c.args.rules.now; map = c.args.map.now } in
    c.give_activity.ensures ∙ ap (with_actors c.args.t.now)
    (order_is c.args.rules.now c.args.t.now.actors (moving setup c.args.cell c.args.queued) c.args.client c.args.id _ c.in-Some.ensures.own (sym c.move_fits.ensures ∙ c.if-move_fits.true))

pub returns-else-move_fits : goal.returns-else-move_fits
returns-else-move_fits c =
    let setup : Setup = record { rules = c.args.rules.now; map = c.args.map.now } in
    ap (with_actors c.args.t.now)
    (order_not c.args.rules.now c.args.t.now.actors (moving setup c.args.cell c.args.queued) c.args.client c.args.id _ c.in-Some.ensures.own (sym c.move_fits.ensures ∙ c.if-move_fits.false))
