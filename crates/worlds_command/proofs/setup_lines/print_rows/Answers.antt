use Rattle.std.proofs.Common.{arith}
use Rattle.world_text.proofs.PrintingLemmas.{prints_whole}
use Rattle.worlds_command.proofs.LineLemmas.{prints_all, prints_step, rows_all, rows_end, rows_next}
use Rattle.worlds_command.proofs.setup_lines.print_rows.Goals as goal

pub loop-row-init : goal.loop-row-init
loop-row-init g c =
    prints_all _ _ _
    (rows_all c.args.tiles.now c.args.tiles.now.width c.args.tiles.now.height)

pub loop-row-preserved : goal.loop-row-preserved
loop-row-preserved g c =
    prints_step _ _ _ _ _ _ _
    (rows_next c.args.tiles.now c.args.tiles.now.width c.loop-row.row c.args.tiles.now.height
    (omega (arith, c.loop-row-test.true, c.height-row-end.ensures)))
    c.loop-row.invariant c.print_row.ensures

pub returns : goal.returns
returns g c =
    prints_whole _ _ _ _
    (rows_end c.args.tiles.now c.args.tiles.now.width c.loop-row.row c.args.tiles.now.height
    (omega (arith, c.loop-row-test.false, c.height-row-end.ensures)))
    c.loop-row.invariant
