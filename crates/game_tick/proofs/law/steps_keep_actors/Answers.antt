use Rattle.game_tick.proofs.ActorsLemmas.{step_actors}
use Rattle.game_tick.proofs.law.steps_keep_actors.Goals as goal

pub returns : goal.returns
returns c = λ setup least most draws w id is mid. step_actors setup least most draws w id is.map mid
