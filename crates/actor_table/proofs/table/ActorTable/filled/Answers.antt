use Rattle.game_model.specs.declared.limits.TheConstants.{MAX_ACTORS}
use Rattle.actor_table.proofs.IdleCalls.{idle_none}
use Rattle.actor_table.proofs.table.ActorTable.filled.Goals as goal

pub invariant_of-table : goal.invariant_of-table
invariant_of-table c =
    rw (c.in_ok-create.ensures, c.in_ok-filled.ensures) (record {
      indexed = c.in_ok-filled-2.ensures.actors;
      listed = c.in_ok-filled-3.ensures;
      marked = idle_none MAX_ACTORS c.args.actors.now;
    })
