-- Of the lines of all kinds those of the others are left.
use Rattle.std.proofs.Common.{drop}
use Rattle.world_text.specs.Printing.{state_of, PrintsBut}
use Rattle.worlds_command.specs.SetupLines.{kind_lines}
use Rattle.worlds_command.proofs.setup_lines.print_kinds.Given as goal

abbrev pub invariant-loop-number : goal.invariant-loop-number
invariant-loop-number g l =
    PrintsBut (state_of l.initial.printer (g.K.Sink.state l.initial.out))
    (state_of l.printer (g.K.Sink.state l.out)) (kind_lines 0 l.kinds)
    (kind_lines l.number (drop l.number l.kinds))
