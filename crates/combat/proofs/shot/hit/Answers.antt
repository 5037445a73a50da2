use Rattle.motion.proofs.ChangeLemmas.{table_same, table_part}
use Rattle.combat.proofs.shot.hit.Goals as goal

pub returns-in_default : goal.returns-in_default
returns-in_default c = table_same c.args.t.now c.args.id _ c.in_default.ensures

pub returns : goal.returns
returns c = table_part c.args.t.now c.set_health.new.self c.args.id c.in-Some.a.now _ _ c.len-ids_rise.ensures.list c.in-Some.ensures (cc) c.set_health.ensures
