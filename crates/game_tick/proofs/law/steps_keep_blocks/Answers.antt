use Rattle.game_tick.proofs.BlocksLemmas.{steps_blocks}
use Rattle.game_tick.proofs.law.steps_keep_blocks.Goals as goal

pub returns : goal.returns
returns c =
    λ setup least most draws w ids is mid. steps_blocks setup least most draws w ids is.map mid
