use Rattle.match_net.proofs.OpeningLemmas.{shown}
use Rattle.match_net.proofs.playing.play_welcomed.Goals as goal

pub returns-in-Ok-clause-ok : goal.returns-in-Ok-clause-ok
returns-in-Ok-clause-ok g c =
    λ made rules first before begins.
    shown _ _ _ _ _ _ _ _ _ _ _ (c.in-Ok.ensures.means made rules first before begins)
    c.played.ensures
