use Rattle.frame_core.proofs.ReadyLemmas.{answer_tells}
use Rattle.frame_core.proofs.columns.Columns.ready.Goals as goal

-- What the answer says follows from its value.
pub returns-clause-means : goal.returns-clause-means
returns-clause-means c = answer_tells c.args.self.now c.args.n c.ready_by.result c.ready_by.ensures.value
