use Rattle.motion.proofs.ChangeLemmas.{table_same}
use Rattle.combat.proofs.shot.begin_reloading.Goals as goal

pub returns-in_default : goal.returns-in_default
returns-in_default c = table_same c.args.t.now c.args.id _ c.in_default.ensures
