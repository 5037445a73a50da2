use Rattle.game_tick.proofs.TurnLemmas.{step_mid}
use Rattle.game_tick.proofs.law.steps_keep_mid_turn.Goals as goal

pub returns : goal.returns
returns c = λ setup least most draws w id is mid. step_mid setup least most draws w id is.map mid
