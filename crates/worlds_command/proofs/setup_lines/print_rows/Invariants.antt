-- Of the lines of all rows those of the others are left.
use Rattle.std.proofs.Common.{◌-◌}
use Rattle.world_text.specs.Printing.{state_of, PrintsBut}
use Rattle.worlds_command.specs.SetupLines.{rows_from}
use Rattle.worlds_command.proofs.setup_lines.print_rows.Given as goal

abbrev pub invariant-loop-row : goal.invariant-loop-row
invariant-loop-row g l =
    PrintsBut (state_of l.initial.printer (g.K.Sink.state l.initial.out))
    (state_of l.printer (g.K.Sink.state l.out))
    (rows_from l.tiles l.tiles.width 0 l.tiles.height)
    (rows_from l.tiles l.tiles.width l.row (l.tiles.height - l.row))
