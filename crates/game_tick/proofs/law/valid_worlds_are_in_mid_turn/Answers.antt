use Rattle.game_tick.proofs.TurnLemmas.{mid_from_valid}
use Rattle.game_tick.proofs.law.valid_worlds_are_in_mid_turn.Goals as goal

pub returns : goal.returns
returns c = λ setup least most draws w valid. mid_from_valid setup least most draws w valid
