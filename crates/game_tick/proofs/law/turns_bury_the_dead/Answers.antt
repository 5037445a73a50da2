use Rattle.game_tick.proofs.TurnEndsLemmas.{turn_ends}
use Rattle.game_tick.proofs.law.turns_bury_the_dead.Goals as goal

pub returns : goal.returns
returns c = λ setup w. turn_ends setup w
