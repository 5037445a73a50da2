use Rattle.std.proofs.Common.{◌∙◌}
use Rattle.actor_table.proofs.NextKinds.{entries_are_actors}
use Rattle.actor_table.proofs.table.ActorTable.of_kind.Goals as goal

pub returns : goal.returns
returns c =
    let held = c.self.inside in
    rw (← c.self.view_is) (c.of.ensures ∙ entries_are_actors held.kinds held.roster c.args.owner c.args.kind c.self.invariant.listed)
