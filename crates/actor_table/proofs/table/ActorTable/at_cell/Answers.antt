use Rattle.std.proofs.Common.{is_some, ap, sym, ◌∙◌, arith}
use Rattle.game_model.specs.Grid.{IsOn}
use Rattle.actor_table.proofs.Holders.{holder_free, holder_is_some}
use Rattle.actor_table.proofs.TableCalls.{told_occupied, off_map_free}
use Rattle.actor_table.proofs.table.ActorTable.at_cell.Goals as goal
use Rattle.actor_table.proofs.table.ActorTable.at_cell.Goals.{else-p-width-via-then-p-width+else-p-height, else-p-width-via-else-p-width}

pub returns-then-p-height-clause-occupied : goal.returns-then-p-height-clause-occupied
returns-then-p-height-clause-occupied c =
    let held = c.self.inside in
    let on : IsOn held.cells.width held.cells.height c.args.p = record { column = omega (arith); row = omega (arith) } in
    rw (← c.self.view_is) (ap is_some (told_occupied held.cells held.roster c.args.p c.get.result c.self.invariant.indexed on c.get.ensures) ∙ holder_is_some held.roster c.args.p)

pub returns-else-p-width-clause-value : goal.returns-else-p-width-clause-value
returns-else-p-width-clause-value c =
    let held = c.self.inside in
    let free = off_map_free held.cells held.roster c.args.p c.self.invariant.indexed (λ on. elim c.else-p-width.branch [
      | else-p-width-via-then-p-width+else-p-height w ↦ omega (arith, on.row)
      | else-p-width-via-else-p-width w ↦ omega (arith, on.column)
    ]) in
    rw (← c.self.view_is) (sym (holder_free held.roster c.args.p free))

pub returns-else-p-width-clause-occupied : goal.returns-else-p-width-clause-occupied
returns-else-p-width-clause-occupied c =
    let held = c.self.inside in
    let free = off_map_free held.cells held.roster c.args.p c.self.invariant.indexed (λ on. elim c.else-p-width.branch [
      | else-p-width-via-then-p-width+else-p-height w ↦ omega (arith, on.row)
      | else-p-width-via-else-p-width w ↦ omega (arith, on.column)
    ]) in
    rw (← c.self.view_is) (sym free)
