use Rattle.game_tick.proofs.CountLemmas.{tick_count}
use Rattle.game_tick.proofs.law.ticks_count_turns.Goals as goal

pub returns : goal.returns
returns c = λ setup w frame. tick_count setup w frame
