use Rattle.drill.proofs.RunsEventsLemmas.{flush_prints}
use Rattle.drill.proofs.event_lines.flush_if_full.Goals as goal

pub returns-clause-printed : goal.returns-clause-printed
returns-clause-printed g c = flush_prints _ _ _ _ _ c.flush.ensures.wrote c.flush.ensures.empty
