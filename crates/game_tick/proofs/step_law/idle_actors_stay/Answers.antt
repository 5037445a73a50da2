use Rattle.game_tick.proofs.IdleLemmas.{idle_stays}
use Rattle.game_tick.proofs.step_law.idle_actors_stay.Goals as goal

pub returns : goal.returns
returns c setup w id a found idle = idle_stays setup w id a found idle
