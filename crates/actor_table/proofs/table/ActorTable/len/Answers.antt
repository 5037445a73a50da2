use Rattle.std.proofs.Common.{◌≤◌, length, arith}
use Rattle.game_model.specs.declared.limits.TheConstants.{MAX_ACTORS}
use Rattle.actor_table.proofs.TableCalls.{table_facts}
use Rattle.actor_table.proofs.table.ActorTable.len.Goals as goal

pub returns-clause-list : goal.returns-clause-list
returns-clause-list c =
    let held = c.self.inside in
    let limit : length held.roster ≤ MAX_ACTORS = omega (arith, c.len.ensures.value, c.len.ensures.limit) in
    rw (← c.self.view_is) (table_facts held.cells held.roster c.self.invariant.indexed c.len.ensures.rises limit)
