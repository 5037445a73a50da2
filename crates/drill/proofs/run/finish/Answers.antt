use Rattle.drill.proofs.RunsEventsLemmas.{finish_prints, finish_cuts}
use Rattle.drill.proofs.run.finish.Goals as goal

pub returns-clause-cut : goal.returns-clause-cut
returns-clause-cut g c = finish_cuts _ _ _ _ _ _ c.in-Ok.ensures c.flush.ensures.prefix

pub returns-clause-printed : goal.returns-clause-printed
returns-clause-printed g c =
    finish_prints _ _ _ _ _ _ _ c.in-Ok.ensures c.flush.ensures.wrote c.flush.ensures.empty
