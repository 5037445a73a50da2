use Rattle.compare_command.proofs.TrueLemmas.{replays_true, saves_true}
use Rattle.compare_command.proofs.law.each_line_is_true.Goals as goal

pub returns-clause-saves : goal.returns-clause-saves
returns-clause-saves c = λ a b. saves_true a b

pub returns-clause-replays : goal.returns-clause-replays
returns-clause-replays c = λ r s. replays_true r s
