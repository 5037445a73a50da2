use Rattle.drill_words.proofs.TextLemmas.{event_line-back, match_line-back, drill_text-back}
use Rattle.drill_words.proofs.law.lines_read_back.Goals as goal

pub returns-clause-event : goal.returns-clause-event
returns-clause-event c = event_line-back

pub returns-clause-head : goal.returns-clause-head
returns-clause-head c = match_line-back

pub returns-clause-text : goal.returns-clause-text
returns-clause-text c = drill_text-back
