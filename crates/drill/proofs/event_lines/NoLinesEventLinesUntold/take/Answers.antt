use Rattle.drill.proofs.RunsEventsLemmas.{untold_prints}
use Rattle.drill.proofs.event_lines.NoLinesEventLinesUntold.take.Goals as goal

pub returns-clause-printed : goal.returns-clause-printed
returns-clause-printed c = untold_prints _
