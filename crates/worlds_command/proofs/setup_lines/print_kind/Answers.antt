use Rattle.worlds_command.proofs.LineLemmas.{prints_three}
use Rattle.worlds_command.proofs.setup_lines.print_kind.Goals as goal

pub returns : goal.returns
returns g c =
    prints_three _ _ _ _ _ _ _ c.print_kind_head.ensures (rw c.as_str.ensures at c.print.ensures)
    c.print-2.ensures
