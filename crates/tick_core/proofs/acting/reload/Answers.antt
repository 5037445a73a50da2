use Rattle.std.proofs.Common.{arith}
use Rattle.game_tick.specs.Turn.{reloaded}
use Rattle.motion.proofs.ChangeLemmas.{table_same, table_part}
use Rattle.tick_core.proofs.BusyLemmas.{not_reloading}
use Rattle.tick_core.proofs.acting.reload.Goals as goal

pub returns-in_default : goal.returns-in_default
returns-in_default c = table_same c.args.t.now c.args.id reloaded c.in_default.ensures

pub returns-then-reload-gt0 : goal.returns-then-reload-gt0
returns-then-reload-gt0 c =
    table_part c.args.t.now c.set_reload.new.self c.args.id c.in-Some.a.now _ reloaded c.len-ids_rise.ensures.list
    c.in-Some.ensures (cc) c.set_reload.ensures

pub returns-else-reload-gt0 : goal.returns-else-reload-gt0
returns-else-reload-gt0 c =
    not_reloading c.args.t.now c.args.id c.in-Some.a.now c.len-ids_rise.ensures.list c.in-Some.ensures
    (omega (arith, c.if-reload-gt0.false))
