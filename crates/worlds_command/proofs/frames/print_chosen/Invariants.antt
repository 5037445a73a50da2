-- The worlds below the next number were printed.
use Rattle.world_text.specs.Printing.{state_of}
use Rattle.worlds_command.proofs.ChosenLemmas.{IsPrintedBelow}
use Rattle.worlds_command.proofs.frames.print_chosen.Given as goal

abbrev pub invariant-loop-n : goal.invariant-loop-n
invariant-loop-n g l =
    IsPrintedBelow l.fn.game l.r l.chosen
    (state_of l.initial.printer (g.K.Sink.state l.initial.out))
    (state_of l.printer (g.K.Sink.state l.out)) l.n l.count l.playback
