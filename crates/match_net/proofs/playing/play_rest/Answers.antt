use Rattle.match_net.proofs.PlayLemmas.{turned}
use Rattle.match_net.proofs.playing.play_rest.Goals as goal

pub returns-in-Ok-Some : goal.returns-in-Ok-Some
returns-in-Ok-Some g c =
    record {
      means = λ made rules first before so_far.
          turned _ _ _ _ _ _ _ _ _ c.in-Ok-Some.field-0-is
          (c.in-Ok-Some.ensures.means made rules first before
          (c.turns.invariant.2 made rules first before so_far));
    }
