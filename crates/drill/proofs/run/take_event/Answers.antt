use Rattle.drill.proofs.RunsEventsLemmas.{event_ran}
use Rattle.drill.proofs.run.take_event.Goals as goal

pub returns-clause-runs : goal.returns-clause-runs
returns-clause-runs g c =
    event_ran _ _ _ _ _ _ _ _ _ c.in-Ok.outcome _ c.in-Ok.ensures.runs c.take.ensures.printed c.take.ensures.cut
