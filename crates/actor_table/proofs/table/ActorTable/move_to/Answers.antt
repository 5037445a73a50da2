use Rattle.actor_table.proofs.TableCalls.{cell_on, indexed_from}
use Rattle.actor_table.proofs.KindLists.{lists_moved}
use Rattle.actor_table.proofs.IdleCalls.{idle_moved}
use Rattle.actor_table.proofs.table.ActorTable.move_to.Goals as goal

pub set-requires-clause-column : goal.set-requires-clause-column
set-requires-clause-column c =
    let held = c.self.inside in
    (cell_on held.cells held.roster c.args.id c.cell_of-from.result c.self.invariant.indexed c.cell_of-from.ensures).column

pub set-requires-clause-row : goal.set-requires-clause-row
set-requires-clause-row c =
    let held = c.self.inside in
    (cell_on held.cells held.roster c.args.id c.cell_of-from.result c.self.invariant.indexed c.cell_of-from.ensures).row

pub invariant_of-self : goal.invariant_of-self
invariant_of-self c =
    let held = c.self.inside in
    let asked = rw (← c.self.view_is) at c.requires in
    rw (c.set-2.ensures, c.set.ensures, c.set_cell.ensures.value) (record {
      indexed = indexed_from held.cells held.roster c.args.id c.cell_of-from.result c.args.to c.self.invariant.indexed c.set_cell.ensures.rises c.cell_of-from.ensures (record { column = asked.column; row = asked.row }) asked.free;
      listed = lists_moved held.kinds held.roster c.args.id c.args.to c.self.invariant.listed;
      marked = idle_moved held.idle held.roster c.args.id c.args.to c.self.invariant.marked;
    })
