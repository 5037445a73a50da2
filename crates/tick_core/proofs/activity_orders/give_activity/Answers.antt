use Rattle.game_tick.specs.Orders.{told}
use Rattle.motion.proofs.ChangeLemmas.{table_same, table_changed}
use Rattle.tick_core.proofs.activity_orders.give_activity.Goals as goal

pub returns-in_default : goal.returns-in_default
returns-in_default c = table_same c.args.t.now c.args.id (told c.args.queued c.args.activity) c.in_default.ensures

pub returns : goal.returns
returns c = table_changed c.args.t.now c.swap_body.new.self c.args.id c.in-Some.a.now _ (told c.args.queued c.args.activity) c.len-ids_rise.ensures.list c.in-Some.ensures (cc) c.swap_body.ensures.given
