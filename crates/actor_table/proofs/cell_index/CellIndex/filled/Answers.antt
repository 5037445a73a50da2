use Rattle.actor_table.proofs.FilledLists.{indexed_next}
use Rattle.actor_table.proofs.cell_index.CellIndex.filled.Goals as goal

pub loop-actor-preserved : goal.loop-actor-preserved
loop-actor-preserved c =
    indexed_next c.loop-actor.index c.set.new.self c.args.w c.args.h c.args.actors.now c.loop-actor.actor-index c.actor-item.result c.loop-actor.invariant c.set.ensures c.loop-actor-test.true c.actor-item.is c.requires.on_map c.requires.apart
