use Rattle.game_tick.proofs.ShotsLemmas.{step_shots}
use Rattle.game_tick.proofs.law.draws_are_shots.Goals as goal

pub returns : goal.returns
returns c = λ setup w id. step_shots setup w id
