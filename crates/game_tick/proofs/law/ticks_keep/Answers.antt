use Rattle.game_tick.proofs.KeepsLemmas.{tick_keeps}
use Rattle.game_tick.proofs.law.ticks_keep.Goals as goal

pub returns : goal.returns
returns c = λ setup w frame. tick_keeps setup w frame
