use Rattle.game_tick.proofs.IdleLemmas.{moves_apart}
use Rattle.game_tick.proofs.step_law.moves_keep_apart.Goals as goal

pub returns : goal.returns
returns c setup built actors id a aim waits found rise apart =
    moves_apart setup built actors id a aim waits found rise apart
