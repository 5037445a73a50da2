use Rattle.command_words.specs.Commands.{route_app}
use Rattle.command_words.proofs.command.route_command.Goals as goal

pub returns : goal.returns
unfolding route_app
returns c =
    c.with_arg.ensures _ _ c.route_with_cells.ensures c.file_names.ensures.rule c.file_names.ensures.local
