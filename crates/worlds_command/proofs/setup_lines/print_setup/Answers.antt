use Rattle.std.proofs.Common.{rules}
use Rattle.worlds_command.proofs.LineLemmas.{setup_printed}
use Rattle.worlds_command.proofs.setup_lines.print_setup.Goals as goal

pub returns : goal.returns
returns g c =
    setup_printed c.args.maker.now _ _ _ _ _ (search rules) (search rules) c.print_kinds.ensures
    c.print_map.ensures
