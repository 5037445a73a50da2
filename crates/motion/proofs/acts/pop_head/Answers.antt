use Rattle.game_tick.specs.Acts.{popped}
use Rattle.motion.proofs.ChangeLemmas.{table_same}
use Rattle.motion.proofs.acts.pop_head.Goals as goal

pub returns-in_default : goal.returns-in_default
returns-in_default c = table_same c.args.t.now c.args.id popped c.in_default.ensures
