use Rattle.game_save.proofs.WorldAgainLemmas.{same_saves}
use Rattle.game_save.proofs.law.a_save_tells_the_world.Goals as goal

pub returns : goal.returns
returns c =
    λ number frames others setup w v small is fits also fits_too same.
    same_saves number frames others setup w v small is fits also fits_too same
