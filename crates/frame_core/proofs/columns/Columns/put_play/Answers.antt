use Rattle.std.proofs.Common.{arith}
use Rattle.std.proofs.lemmas.Grind.{common_steps}
use Rattle.game_orders.specs.declared.entry.Entry.TheVariants.{Play}
use Rattle.frame_core.proofs.PutLemmas.{columns_tell, columns_grow}
use Rattle.frame_core.proofs.columns.Columns.put_play.Goals as goal

-- What the answer says, and that the columns grow, follows from the answer and the columns
-- afterwards.
pub returns-clause-answer : goal.returns-clause-answer
returns-clause-answer c = grind (arith, common_steps)

pub returns-clause-after : goal.returns-clause-after
returns-clause-after c = grind (arith, common_steps)

pub returns-clause-err : goal.returns-clause-err
returns-clause-err c = grind (arith, common_steps)

pub returns-clause-means : goal.returns-clause-means
returns-clause-means c =
    columns_tell c.put_play.result c.args.self.now _ c.args.c c.args.n (Play c.args.orders.now) c.requires.client (returns-clause-answer c) (returns-clause-after c)

pub returns-clause-grows : goal.returns-clause-grows
returns-clause-grows c =
    columns_grow c.put_play.result c.args.self.now _ c.args.c c.args.n (Play c.args.orders.now) (returns-clause-after c) (returns-clause-err c)
