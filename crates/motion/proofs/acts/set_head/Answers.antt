use Rattle.game_tick.specs.Acts.{with_first}
use Rattle.motion.proofs.ChangeLemmas.{table_same}
use Rattle.motion.proofs.acts.set_head.Goals as goal

pub returns-in_default : goal.returns-in_default
returns-in_default c = table_same c.args.t.now c.args.id (with_first c.args.activity) c.in_default.ensures
