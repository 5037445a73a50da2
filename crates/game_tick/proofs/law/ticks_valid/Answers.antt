use Rattle.game_tick.proofs.TickLemmas.{tick_valid}
use Rattle.game_tick.proofs.law.ticks_valid.Goals as goal

pub returns : goal.returns
returns c = λ setup frames w frame is valid. tick_valid setup frames w frame is.map valid
