use Rattle.std.proofs.Common.{sym, ◌∙◌}
use Rattle.actor_table.proofs.TableCalls.{found_on, indexed_without, without_none}
use Rattle.std.proofs.Common.{length}
use Rattle.actor_table.specs.ActorList.{without_id}
use Rattle.actor_table.proofs.KindLists.{lists_without}
use Rattle.actor_table.proofs.IdleCalls.{idle_none}
use Rattle.actor_table.proofs.table.ActorTable.remove.Goals as goal

pub invariant_of-self : goal.invariant_of-self
invariant_of-self c =
    let held = c.self.inside in
    rw (c.remove.ensures.rest, without_none held.roster c.args.id (sym c.remove.ensures.value ∙ c.in_err-a.was)) c.self.invariant

pub set-requires-clause-column : goal.set-requires-clause-column
set-requires-clause-column c =
    let held = c.self.inside in
    (found_on held.cells held.roster c.args.id c.in_ok-a.a c.self.invariant.indexed (sym c.remove.ensures.value ∙ c.in_ok-a.was)).column

pub set-requires-clause-row : goal.set-requires-clause-row
set-requires-clause-row c =
    let held = c.self.inside in
    (found_on held.cells held.roster c.args.id c.in_ok-a.a c.self.invariant.indexed (sym c.remove.ensures.value ∙ c.in_ok-a.was)).row

pub invariant_of-self-2 : goal.invariant_of-self-2
invariant_of-self-2 c =
    let held = c.self.inside in
    let found = sym c.remove.ensures.value ∙ c.in_ok-a.was in
    rw (c.set.ensures, c.remove.ensures.rest, c.remove-2.ensures.rest, c.clear.ensures) (record {
      indexed = indexed_without held.cells held.roster c.args.id c.in_ok-a.a c.self.invariant.indexed c.remove.ensures.rises found;
      listed = lists_without held.kinds held.roster c.args.id c.in_ok-a.a c.self.invariant.listed c.remove.ensures.rises found;
      marked = idle_none (length held.idle) (without_id held.roster c.args.id);
    })
