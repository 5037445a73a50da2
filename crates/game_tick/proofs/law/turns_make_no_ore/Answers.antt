use Rattle.game_tick.proofs.StepKeepsLemmas.{turn_ore}
use Rattle.game_tick.proofs.law.turns_make_no_ore.Goals as goal

pub returns : goal.returns
returns c = λ setup w. turn_ore setup w
