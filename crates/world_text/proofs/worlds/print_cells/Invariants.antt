-- Of the lines of all cells those of the others are left.
use Rattle.std.proofs.Common.{drop}
use Rattle.world_text.specs.Printing.{state_of, PrintsBut}
use Rattle.world_text.specs.WorldText.{ore_from}
use Rattle.world_text.proofs.worlds.print_cells.Given as goal

abbrev pub invariant-loop-place : goal.invariant-loop-place
invariant-loop-place g l =
    PrintsBut (state_of l.initial.printer (g.K.Sink.state l.initial.out))
    (state_of l.printer (g.K.Sink.state l.out)) (ore_from l.width 0 l.cells)
    (ore_from l.width l.place (drop l.place l.cells))
