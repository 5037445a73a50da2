use Rattle.worlds_command.proofs.LineLemmas.{prints_two}
use Rattle.worlds_command.proofs.setup_lines.print_map.Goals as goal

pub returns : goal.returns
returns g c =
    prints_two _ _ _ _ _ (rw (c.width.ensures, c.height.ensures) at c.print_size.ensures)
    c.print_rows.ensures
