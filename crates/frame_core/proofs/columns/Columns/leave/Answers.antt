use Rattle.std.proofs.Common.{arith}
use Rattle.std.proofs.lemmas.Grind.{common_steps}
use Rattle.frame_core.proofs.PutLemmas.{left_columns_grow}
use Rattle.frame_core.proofs.columns.Columns.leave.Goals as goal

-- That the columns grow follows from what they are afterwards.
pub returns-clause-after : goal.returns-clause-after
returns-clause-after c = grind (arith, common_steps)

pub returns-clause-grows : goal.returns-clause-grows
returns-clause-grows c = left_columns_grow c.args.self.now _ c.args.c (returns-clause-after c)
