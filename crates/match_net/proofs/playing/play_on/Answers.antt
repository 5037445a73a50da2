use Rattle.match_net.proofs.PlayLemmas.{first_goes, first_ended, first_out}
use Rattle.match_net.proofs.playing.play_on.Goals as goal

pub returns-in-Ok-None : goal.returns-in-Ok-None
returns-in-Ok-None g c =
    record {
      means = λ made rules first before begins.
          c.play_rest.ensures.means made rules first before
          (first_goes _ _ _ _ _ _ _ _ _ _ c.in-Ok-None.field-0-is c.in-Ok-None.ensures.acts
          begins);
    }

pub returns-in-Ok-Some : goal.returns-in-Ok-Some
returns-in-Ok-Some g c =
    record {
      means = λ made rules first before begins.
          first_ended _ _ _ _ _ _ _ _ _ _ _ c.in-Ok-Some.field-0-is c.in-Ok-Some.ensures.acts
          begins;
    }

pub returns-in-Err : goal.returns-in-Err
returns-in-Err g c =
    record {
      means = λ made rules first before begins.
          first_out _ _ _ _ _ _ _ _ c.in-Err.ensures.err begins;
    }
