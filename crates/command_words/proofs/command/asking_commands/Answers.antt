use Rattle.command_words.specs.Commands.{asking_app}
use Rattle.command_words.proofs.command.asking_commands.Goals as goal

pub returns : goal.returns
unfolding asking_app
returns c =
    c.with_command.ensures _ _ (c.with_command-command.ensures _ _ c.first_commands.ensures c.check_command.ensures)
    c.route_command.ensures
