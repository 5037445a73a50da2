use Rattle.actor_table.proofs.FilledLists.{lower_before}
use Rattle.actor_table.proofs.roster.Roster.filled.Goals as goal

pub push-requires-clause-above : goal.push-requires-clause-above
push-requires-clause-above c =
    rw (c.loop-actor.invariant, c.copy.ensures)
    (lower_before c.args.actors.now c.loop-actor.actor-index c.actor-item.result c.loop-actor-test.true c.actor-item.is c.requires.rise)
