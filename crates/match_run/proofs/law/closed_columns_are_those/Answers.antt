use Rattle.match_run.proofs.LocalLemmas.{closed_are}
use Rattle.match_run.proofs.law.closed_columns_are_those.Goals as goal

pub returns : goal.returns
returns c = closed_are
