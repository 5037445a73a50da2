use Rattle.actor_table.proofs.IdleCalls.{idle_there}
use Rattle.actor_table.proofs.table.ActorTable.is_idle_at.Goals as goal

pub returns : goal.returns
returns c =
    let held = c.self.inside in
    λ told. rw (← c.self.view_is) (idle_there held.idle held.roster c.args.i c.self.invariant.marked (c.get.ensures told))
