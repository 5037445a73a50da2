use Rattle.game_tick.proofs.StepKeepsLemmas.{step_keeps}
use Rattle.game_tick.proofs.law.steps_keep.Goals as goal

pub returns : goal.returns
returns c = λ setup w id. step_keeps setup w id
