use Rattle.actor_table.specs.Kinds.{next_number}
use Rattle.actor_table.proofs.NextKinds.{next_of_actors}
use Rattle.actor_table.proofs.table.ActorTable.next_kind.Goals as goal

pub returns : goal.returns
returns c =
    let held = c.self.inside in
    rw (← c.self.view_is) (next_of_actors held.kinds held.roster c.args.owner (next_number c.args.above) _ c.self.invariant.listed c.next_kind.ensures)
