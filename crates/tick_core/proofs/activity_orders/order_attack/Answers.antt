use Rattle.std.proofs.Common.{◌∙◌, ap, sym}
use Rattle.game_model.specs.Setup.{Setup}
use Rattle.game_tick.specs.Orders.{attacking}
use Rattle.tick_core.proofs.OrderLemmas.{order_is, order_not, with_actors}
use Rattle.tick_core.proofs.activity_orders.order_attack.Goals as goal

pub returns-then-attack_fits : goal.returns-then-attack_fits
returns-then-attack_fits c =
    let setup : Setup = record { rules = c.args.rules.now; map = c.args.map.now } in
    c.give_activity.ensures ∙ ap (with_actors c.args.t.now)
    (order_is c.args.rules.now c.args.t.now.actors (attacking setup c.args.t.now.actors c.args.target c.args.queued) c.args.client c.args.id _ c.in-Some.ensures.own (sym c.attack_fits.ensures ∙ c.if-attack_fits.true))

pub returns-else-attack_fits : goal.returns-else-attack_fits
returns-else-attack_fits c =
    let setup : Setup = record { rules = c.args.rules.now; map = c.args.map.now } in
    ap (with_actors c.args.t.now)
    (order_not c.args.rules.now c.args.t.now.actors (attacking setup c.args.t.now.actors c.args.target c.args.queued) c.args.client c.args.id _ c.in-Some.ensures.own (sym c.attack_fits.ensures ∙ c.if-attack_fits.false))
