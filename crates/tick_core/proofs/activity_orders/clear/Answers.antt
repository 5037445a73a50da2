use Rattle.std.proofs.Common.{[]}
use Rattle.game_tick.specs.Acts.{with_acts}
use Rattle.motion.proofs.ChangeLemmas.{table_same, table_changed}
use Rattle.tick_core.proofs.activity_orders.clear.Goals as goal

pub returns-in_default : goal.returns-in_default
returns-in_default c = table_same c.args.t.now c.args.id (with_acts []) c.in_default.ensures

pub returns : goal.returns
returns c = table_changed c.args.t.now c.swap_body.new.self c.args.id c.in-Some.a.now _ (with_acts []) c.len-ids_rise.ensures.list c.in-Some.ensures (cc) c.swap_body.ensures.given
