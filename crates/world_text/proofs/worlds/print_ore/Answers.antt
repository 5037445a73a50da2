use Rattle.std.proofs.Common.{arith}
use Rattle.world_text.proofs.WorldLemmas.{no_cells}
use Rattle.world_text.proofs.worlds.print_ore.Goals as goal

pub returns-else-width-gt0 : goal.returns-else-width-gt0
returns-else-width-gt0 g c =
    no_cells _ c.args.ore.now c.as_slice-cells.ensures.whole
    (omega (arith, c.if-width-gt0.false, c.from-width.ensures, c.width.ensures))
