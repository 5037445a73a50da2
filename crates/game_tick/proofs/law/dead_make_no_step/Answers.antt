use Rattle.game_tick.proofs.StepKeepsLemmas.{dead_stay}
use Rattle.game_tick.proofs.law.dead_make_no_step.Goals as goal

pub returns : goal.returns
returns c = λ setup w id none. dead_stay setup w id none
