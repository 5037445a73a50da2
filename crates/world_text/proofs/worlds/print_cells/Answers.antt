use Rattle.std.proofs.Common.{rules}
use Rattle.world_text.proofs.PrintingLemmas.{item_at, none_left, prints_none, prints_whole}
use Rattle.world_text.proofs.WorldLemmas.{next_cell, none_after}
use Rattle.world_text.proofs.worlds.print_cells.Goals as goal

pub loop-place-init : goal.loop-place-init
loop-place-init g c = prints_none _ _

pub loop-place-preserved : goal.loop-place-preserved
loop-place-preserved g c =
    next_cell _ _ _ _ c.args.width c.loop-place.place _ _ _
    (item_at c.args.cells.now c.loop-place.place _ c.loop-place-test.true)
    c.loop-place.invariant c.print_cell.ensures

pub returns : goal.returns
returns g c =
    prints_whole _ _ _ _
    (none_after c.args.width c.loop-place.place
    (none_left c.args.cells.now c.loop-place.place (search rules)))
    c.loop-place.invariant
