use Rattle.compare_command.specs.Saves.{cell_of}
use Rattle.compare_command.proofs.EachLemmas.{cell_found, rest_found}
use Rattle.compare_command.proofs.ListLemmas.{got_at}
use Rattle.compare_command.proofs.saves.compare_cells.Goals as goal

pub loop-place-preserved : goal.loop-place-preserved
loop-place-preserved c =
    rest_found (cell_of c.args.width c.args.cells.now c.args.others.now) _ _ _ _ _
    c.loop-place-test.true c.loop-place.invariant
    (cell_found c.args.width c.loop-place.place c.args.cells.now c.args.others.now _ _ _ _
    (got_at c.args.cells.now c.loop-place.place _ c.loop-place-test.true) c.item_of.ensures
    c.in_ok-compare_cell.ensures)
