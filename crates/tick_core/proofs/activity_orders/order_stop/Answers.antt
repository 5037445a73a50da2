use Rattle.std.proofs.Common.{◌∙◌, ap, refl}
use Rattle.game_tick.specs.Orders.{stopping}
use Rattle.tick_core.proofs.OrderLemmas.{order_is, with_actors}
use Rattle.tick_core.proofs.activity_orders.order_stop.Goals as goal

pub returns : goal.returns
returns c =
    c.clear.ensures ∙ ap (with_actors c.args.t.now)
    (order_is c.args.rules.now c.args.t.now.actors stopping c.args.client c.args.id _ c.in-Some.ensures.own refl)
