use Rattle.std.proofs.Common.{arith}
use Rattle.compare_command.specs.Saves.{cell_of}
use Rattle.compare_command.proofs.EachLemmas.{no_numbers}
use Rattle.compare_command.proofs.saves.compare_ore.Goals as goal

pub returns-else-width-gt0 : goal.returns-else-width-gt0
returns-else-width-gt0 c =
    let ore = c.args.ore.now in
    no_numbers (cell_of ore.width ore.cells c.args.other.now.cells) _ ore.width ore.height _
    c.as_slice-cells.ensures.whole
    (omega (arith, c.if-width-gt0.false, c.from-width.ensures, c.width.ensures))
