use Rattle.std.proofs.Common.{refl}
use Rattle.actor_table.proofs.IdleCalls.{idle_set}
use Rattle.actor_table.proofs.table.ActorTable.mark.Goals as goal

pub invariant_of-self : goal.invariant_of-self
invariant_of-self c =
    let held = c.self.inside in
    let a = c.actor_at.result.now in
    rw c.set.ensures (record {
      indexed = c.self.invariant.indexed;
      listed = c.self.invariant.listed;
      marked = idle_set held.idle held.roster c.args.i a c.is_idle-idle.result c.self.invariant.marked
          c.actor_at.ensures.value (c.is_idle-idle.ensures a refl);
    })
