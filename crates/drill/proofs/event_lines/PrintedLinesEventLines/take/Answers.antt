use Rattle.drill.proofs.RunsEventsLemmas.{line_prints, finish_cuts}
use Rattle.drill.proofs.event_lines.PrintedLinesEventLines.take.Goals as goal

pub returns-clause-cut : goal.returns-clause-cut
returns-clause-cut g c = finish_cuts _ _ _ _ _ _ c.in-Ok.ensures c.flush_if_full.ensures.prefix

pub returns-clause-printed : goal.returns-clause-printed
returns-clause-printed g c = line_prints _ _ _ _ _ _ _ c.in-Ok.ensures c.flush_if_full.ensures.printed
